use Rattle.std.proofs.Common.{ℕ, ◌+◌, ◌<◌, slice_index}
use Rattle.rp_evidence.specs.Preference.{IsStrict}
use Rattle.rp_table.specs.Cost.{cost_of}
use Rattle.rp_check_levels.proofs.walks.are_strict.Given as goal

abbrev pub invariant-loop-k : goal.invariant-loop-k
invariant-loop-k l = (k : ℕ) → k < l.k → IsStrict (cost_of l.input.table.now) (slice_index l.walk k) (slice_index l.walk (k + 1))
