use Rattle.std.proofs.Common.{ℕ, ◌<◌, Ok}
use Rattle.rp_clauses.specs.HomotheticFailure.{StepsFail}
use Rattle.rp_table.specs.Cost.{cost_of}
use Rattle.rp_table.specs.Tables.{records_of}
use Rattle.rp_clauses.proofs.homothetic.check_all_steps.Given as goal

abbrev pub invariant-loop-t : goal.invariant-loop-t
invariant-loop-t l = (t : ℕ) → t < l.t → StepsFail (records_of l.input.table.now) (cost_of l.input.table.now) l.values t (Ok tt)
