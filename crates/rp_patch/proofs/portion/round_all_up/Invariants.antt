use Rattle.rp_patch.specs.InnerPortions.{AreRoundedUpBelow}
use Rattle.rp_patch.proofs.portion.round_all_up.Given as goal

abbrev pub invariant-loop-j : goal.invariant-loop-j
invariant-loop-j l = AreRoundedUpBelow l.initial.portions.items l.portions.items l.j l.total
