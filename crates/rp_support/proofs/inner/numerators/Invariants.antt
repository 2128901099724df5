use Rattle.std.proofs.Common.{◌≡◌, ◌<◌, ℕ, length, slice_index}
use Rattle.rp_evidence.specs.DemandEvidence.{budget_of}
use Rattle.rp_evidence.specs.Input.{input_of_table}
use Rattle.rp_support.specs.InnerStart.{inner_numerator}
use Rattle.rp_support.proofs.inner.numerators.Given as goal

abbrev pub invariant-loop-g : goal.invariant-loop-g
invariant-loop-g l = record {
  one_each : length l.num.items ≡ l.g;
  exact : (k : ℕ) → k < l.g → slice_index l.num.items k ≡ inner_numerator (input_of_table l.budget.at.table.now) (budget_of l.budget.at.prices.now l.budget.m) l.start k;
}
