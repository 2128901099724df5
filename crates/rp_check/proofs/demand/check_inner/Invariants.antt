use Rattle.std.proofs.Common.{ℕ, ◌<◌}
use Rattle.rp_evidence.specs.DemandEvidence.{budget_of, bundle_of}
use Rattle.rp_evidence.specs.Input.{input_of_table}
use Rattle.rp_check.specs.DemandFailure.{CostsEnoughAt}
use Rattle.rp_check.proofs.demand.check_inner.Given as goal

abbrev pub invariant-loop-t : goal.invariant-loop-t
invariant-loop-t l = (k : ℕ) → k < l.t → CostsEnoughAt (input_of_table l.budget.at.table.now) (budget_of l.budget.at.prices.now l.budget.m) (bundle_of l.inner) k
