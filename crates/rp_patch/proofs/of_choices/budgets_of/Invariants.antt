use Rattle.std.proofs.Common.{◌≡◌, take}
use Rattle.rp_patch.specs.InnerUnited.{budgets_of}
use Rattle.rp_patch.proofs.of_choices.budgets_of.Given as goal

abbrev pub invariant-loop-one : goal.invariant-loop-one
invariant-loop-one l = l.budgets.items ≡ budgets_of (take l.one-index l.chosen)
