use Rattle.std.proofs.Common.{ℕ, ◌<◌}
use Rattle.rp_check_levels.specs.StepsFailure.{FallsFrom}
use Rattle.rp_table.specs.Cost.{cost_of}
use Rattle.rp_table.specs.Tables.{records_of}
use Rattle.rp_check_levels.proofs.steps.check_left.Given as goal

abbrev pub invariant-loop-s : goal.invariant-loop-s
invariant-loop-s l =
    (s : ℕ) → s < l.s → FallsFrom (records_of l.input.table.now) (cost_of l.input.table.now) l.taken l.ranks s
