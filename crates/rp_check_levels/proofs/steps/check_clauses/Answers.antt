use Rattle.std.proofs.Common.{arith, inl, inr}
use Rattle.rp_evidence.proofs.ClauseLemmas.{passed_on}
use Rattle.rp_table.specs.Cost.{cost_of}
use Rattle.rp_table.specs.Tables.{records_of}
use Rattle.rp_check_levels.specs.StepsFailure.{StepsFail}
use Rattle.rp_check_levels.proofs.steps.check_clauses.Goals as goal

pub returns-in_err-check_taken_of : goal.returns-in_err-check_taken_of
returns-in_err-check_taken_of c =
    let table = c.args.input.now.table.now in
    passed_on c.from_residual.result c.in_err-check_taken_of.field-0.0 (StepsFail (records_of table) (cost_of table) c.args.part.now) c.from_residual.ensures
    (inr (omega arith, inl c.in_err-check_taken_of.ensures))
