use Rattle.std.proofs.Common.{ℕ, ◌<◌, Ok}
use Rattle.rp_evidence.specs.DemandEvidence.{budget_of}
use Rattle.rp_evidence.specs.Input.{input_of_table}
use Rattle.rp_check.specs.DemandFailure.{GoodFailsAt}
use Rattle.rp_check.proofs.demand.check_goods.Given as goal

abbrev pub invariant-loop-g : goal.invariant-loop-g
invariant-loop-g l = (k : ℕ) → k < l.g → GoodFailsAt (input_of_table l.budget.at.table.now) (budget_of l.budget.at.prices.now l.budget.m) l.below l.goods k (Ok tt)
