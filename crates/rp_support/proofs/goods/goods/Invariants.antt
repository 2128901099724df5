use Rattle.std.proofs.Common.{◌≡◌, ◌<◌, ℕ, length, slice_index_or}
use Rattle.rp_evidence.specs.DemandEvidence.{budget_of}
use Rattle.rp_evidence.specs.DemandPrograms.{lower_program, upper_program}
use Rattle.rp_evidence.specs.Input.{input_of_table}
use Rattle.rp_evidence.specs.declared.demand.GoodBounds.{GoodBounds}
use Rattle.rp_simplex.specs.ProgramBound.{IsBoundOf}
use Rattle.rp_support.proofs.goods.goods.Given as goal

abbrev pub invariant-loop-g : goal.invariant-loop-g
invariant-loop-g l = record {
  one_each : length l.goods.items ≡ l.g;
  lower : (k : ℕ) (d : GoodBounds) → k < l.g → IsBoundOf (lower_program (input_of_table l.budget.at.table.now) (budget_of l.budget.at.prices.now l.budget.m) l.below k) (λ x. x k) (slice_index_or l.goods.items k d).lower;
  upper : (k : ℕ) (d : GoodBounds) → k < l.g → IsBoundOf (upper_program (input_of_table l.budget.at.table.now) (budget_of l.budget.at.prices.now l.budget.m) l.below k) (λ x. x k) (slice_index_or l.goods.items k d).upper;
}
