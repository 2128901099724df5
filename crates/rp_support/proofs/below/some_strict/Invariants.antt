use Rattle.std.proofs.Common.{ℕ, ◌<◌, slice_index}
use Rattle.rp_evidence.specs.Preference.{IsStrict}
use Rattle.rp_table.specs.Cost.{cost_of}
use Rattle.rp_support.proofs.below.some_strict.Given as goal

abbrev pub invariant-loop-u : goal.invariant-loop-u
invariant-loop-u l = (k : ℕ) → k < l.u-index → ¬ IsStrict (cost_of l.budget.at.table.now) (slice_index l.list k) l.v
