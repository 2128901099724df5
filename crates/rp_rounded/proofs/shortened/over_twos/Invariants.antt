use Rattle.std.proofs.Common.{◌≡◌, ◌*◌, ◌^◌, ◌≤◌}
use Rattle.rp_rounded.proofs.shortened.over_twos.Given as goal

abbrev pub invariant-loop-twos : goal.invariant-loop-twos
invariant-loop-twos l = record {
  same : l.part * 2 ^ l.places ≡ l.num * 2 ^ l.twos;
  small : l.part ≤ l.num;
}

abbrev pub decreases-loop-twos : goal.decreases-loop-twos
decreases-loop-twos l = l.twos
