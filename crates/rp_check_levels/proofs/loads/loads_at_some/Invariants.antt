use Rattle.std.proofs.Common.{ℕ, ◌+◌, ◌<◌, slice_index}
use Rattle.std.specs.Prelude.{IsTrue}
use Rattle.rp_check_levels.specs.Loads.{loads}
use Rattle.rp_table.specs.Cost.{cost_of}
use Rattle.rp_check_levels.proofs.loads.loads_at_some.Given as goal

abbrev pub invariant-loop-k : goal.invariant-loop-k
invariant-loop-k l = (k : ℕ) → k < l.k
    → ¬ IsTrue (loads l.measure (cost_of l.input.table.now) l.s l.t (slice_index l.walk k) (slice_index l.walk (k + 1)))
