use Rattle.rp_answers.specs.CostText.{AreBoundsOfFirst}
use Rattle.rp_answers.proofs.cost.bounds_of_each.Given as goal

abbrev pub invariant-loop-i : goal.invariant-loop-i
invariant-loop-i l = AreBoundsOfFirst l.tech l.asked l.i l.all.items
