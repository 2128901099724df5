use Rattle.std.proofs.Common.{ℕ, ◌<◌, ◌≤◌, ◌*◌, ◌^◌, slice_index}
use Rattle.rp_table.specs.Cost.{cost_of}
use Rattle.rp_check_walk_levels.proofs.homothetic_level.bounds_products_from.Given as goal

abbrev pub invariant-loop-t : goal.invariant-loop-t
invariant-loop-t l = (t : ℕ) → t < l.t
    → (slice_index l.values t * l.low) * cost_of l.input.table.now l.s l.s ≤ (slice_index l.values l.s * cost_of l.input.table.now l.s t) * 2 ^ 40
