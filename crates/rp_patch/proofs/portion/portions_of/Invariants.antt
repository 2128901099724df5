use Rattle.rp_patch.specs.Apportionment.{grouped}
use Rattle.rp_patch.specs.InnerPortions.{ArePortions}
use Rattle.rp_patch.proofs.portion.portions_of.Given as goal

abbrev pub invariant-loop-i : goal.invariant-loop-i
invariant-loop-i l = ArePortions (grouped l.groups l.counts) l.total l.i l.portions.items
