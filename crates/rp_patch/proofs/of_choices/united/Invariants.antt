use Rattle.rp_patch.specs.InnerUnited.{AreUnited}
use Rattle.rp_patch.proofs.of_choices.united.Given as goal

abbrev pub invariant-loop-i : goal.invariant-loop-i
invariant-loop-i l = AreUnited l.chosen l.units l.i l.patches.items
