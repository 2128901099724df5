use Rattle.std.proofs.Common.{ℕ, ◌<◌, Ok}
use Rattle.rp_clauses.specs.HomotheticFailure.{StepFails}
use Rattle.rp_table.specs.Cost.{cost_of}
use Rattle.rp_clauses.proofs.homothetic.check_steps_from.Given as goal

abbrev pub invariant-loop-s : goal.invariant-loop-s
invariant-loop-s l = (s : ℕ) → s < l.s → StepFails (cost_of l.input.table.now) l.values l.t s (Ok tt)
