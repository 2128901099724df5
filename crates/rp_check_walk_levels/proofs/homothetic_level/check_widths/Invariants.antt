use Rattle.std.proofs.Common.{ℕ, ◌<◌, slice_index}
use Rattle.rp_check_walk_levels.specs.HomotheticLevelFailure.{FitsFactor}
use Rattle.rp_check_walk_levels.proofs.homothetic_level.check_widths.Given as goal

abbrev pub invariant-loop-s : goal.invariant-loop-s
invariant-loop-s l = (s : ℕ) → s < l.s → FitsFactor (slice_index l.values s)
