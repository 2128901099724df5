use Rattle.std.proofs.Common.{◌≡◌, ◌*◌, ◌^◌, ◌≤◌}
use Rattle.rp_rounded.proofs.shortened.without_twos.Given as goal

abbrev pub invariant-loop-twos : goal.invariant-loop-twos
invariant-loop-twos l = record {
  same : l.part * 2 ^ l.twos ≡ l.n;
  positive : 1 ≤ l.part;
}
