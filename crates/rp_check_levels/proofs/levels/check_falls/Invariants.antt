use Rattle.std.proofs.Common.{ℕ, ◌<◌}
use Rattle.rp_check_levels.specs.LevelsFailure.{FallsBelow}
use Rattle.rp_table.specs.Cost.{cost_of}
use Rattle.rp_table.specs.Tables.{records_of}
use Rattle.rp_check_levels.proofs.levels.check_falls.Given as goal

abbrev pub invariant-loop-s : goal.invariant-loop-s
invariant-loop-s l = (s : ℕ) → s < l.s → FallsBelow (records_of l.input.table.now) (cost_of l.input.table.now) l.at l.ranks s
