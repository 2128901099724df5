use Rattle.std.proofs.Common.{ℕ, ◌<◌}
use Rattle.rp_check_walk_levels.specs.QuasilinearLevelFailure.{FitsValue, value_at}
use Rattle.rp_check_walk_levels.proofs.quasilinear_level.check_widths.Given as goal

abbrev pub invariant-loop-s : goal.invariant-loop-s
invariant-loop-s l = (s : ℕ) → s < l.s → FitsValue (value_at l.values s)
