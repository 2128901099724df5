use Rattle.rp_patch.specs.InnerPortions.{ArePortionUnits}
use Rattle.rp_patch.proofs.portion.all_units.Given as goal

abbrev pub invariant-loop-portion : goal.invariant-loop-portion
invariant-loop-portion l = ArePortionUnits l.portions l.portion-index l.all.items
