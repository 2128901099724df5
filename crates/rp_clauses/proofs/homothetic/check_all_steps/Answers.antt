use Rattle.std.proofs.Common.{arith}
use Rattle.rp_table.specs.Cost.{cost_of}
use Rattle.rp_table.specs.Tables.{records_of}
use Rattle.rp_clauses.specs.HomotheticFailure.{StepsFail}
use Rattle.rp_evidence.proofs.ClauseLemmas.{first_found}
use Rattle.rp_clauses.proofs.homothetic.check_all_steps.Goals as goal

pub returns-in_err-check_steps_from : goal.returns-in_err-check_steps_from
returns-in_err-check_steps_from c =
    first_found (records_of c.args.input.now.table.now) c.loop-t.t
    (StepsFail (records_of c.args.input.now.table.now) (cost_of c.args.input.now.table.now) c.args.values.now)
    c.from_residual.result c.in_err-check_steps_from.field-0.0 (omega arith)
    c.loop-t.invariant c.in_err-check_steps_from.ensures c.from_residual.ensures
