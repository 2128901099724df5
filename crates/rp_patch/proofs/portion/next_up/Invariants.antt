use Rattle.rp_patch.specs.InnerPortions.{IsNextUp}
use Rattle.rp_patch.proofs.portion.next_up.Given as goal

abbrev pub invariant-loop-i : goal.invariant-loop-i
invariant-loop-i l = IsNextUp l.portions l.j l.i l.best
