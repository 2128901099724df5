use Rattle.rp_evidence.specs.DemandEvidence.{budget_of}
use Rattle.rp_evidence.specs.Input.{input_of_table}
use Rattle.rp_filled.specs.InnerFound.{ArePaired, IsFoundGood}
use Rattle.rp_filled.proofs.demand.found_goods.Given as goal

abbrev pub invariant-loop-bounds : goal.invariant-loop-bounds
invariant-loop-bounds l = ArePaired (IsFoundGood (input_of_table l.budget.at.table.now) (budget_of l.budget.at.prices.now l.budget.m) l.below) l.yielded l.all.items
