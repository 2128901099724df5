use Rattle.std.proofs.Common.{ℕ, ◌*◌, ◌<◌}
use Rattle.std.specs.Prelude.{pos, ◌≤ℤ◌, ◌+ℤ◌}
use Rattle.rp_check_walk_levels.specs.QuasilinearLevelFailure.{value_at}
use Rattle.rp_table.specs.Cost.{cost_of}
use Rattle.rp_check_walk_levels.proofs.quasilinear_level.bounds_from.Given as goal

abbrev pub invariant-loop-t : goal.invariant-loop-t
invariant-loop-t l = (t : ℕ) → t < l.t
    → (value_at l.values t +ℤ pos (l.num * cost_of l.input.table.now l.s l.s)) ≤ℤ (value_at l.values l.s +ℤ pos (l.den * cost_of l.input.table.now l.s t))
