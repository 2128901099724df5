use Rattle.std.proofs.Common.{◌≡◌, ◌*◌}
use Rattle.rp_patch.specs.InnerTallies.{AtMost, tallied, tally_of}
use Rattle.rp_patch.proofs.tally.tally_on.Given as goal

abbrev pub invariant-loop-i : goal.invariant-loop-i
invariant-loop-i l = record {
  so_far : tallied l.tally.entries ≡ tally_of l.all l.choices l.j l.i;
  at_most : AtMost (l.i * 9999999) (tallied l.tally.entries);
}
