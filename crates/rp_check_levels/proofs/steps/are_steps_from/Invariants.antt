use Rattle.std.proofs.Common.{ℕ, ◌<◌}
use Rattle.rp_check_levels.specs.StepsFailure.{IsStepAt}
use Rattle.rp_table.specs.Cost.{cost_of}
use Rattle.rp_table.specs.Tables.{records_of}
use Rattle.rp_check_levels.proofs.steps.are_steps_from.Given as goal

abbrev pub invariant-loop-k : goal.invariant-loop-k
invariant-loop-k l = (k : ℕ) → k < l.k → IsStepAt (records_of l.input.table.now) (cost_of l.input.table.now) l.s l.row k
