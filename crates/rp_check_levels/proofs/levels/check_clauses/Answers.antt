use Rattle.std.proofs.Common.{arith, inl, inr}
use Rattle.rp_evidence.proofs.ClauseLemmas.{passed_on}
use Rattle.rp_table.specs.Cost.{cost_of}
use Rattle.rp_table.specs.Tables.{records_of}
use Rattle.rp_check_levels.specs.LevelsFailure.{LevelsFail}
use Rattle.rp_check_levels.proofs.levels.check_clauses.Goals as goal

pub returns-in_err-check_at_of : goal.returns-in_err-check_at_of
returns-in_err-check_at_of c =
    let table = c.args.input.now.table.now in
    passed_on c.from_residual.result c.in_err-check_at_of.field-0.0 (LevelsFail (records_of table) (cost_of table) c.args.part.now) c.from_residual.ensures
    (inr (omega arith, inl c.in_err-check_at_of.ensures))
