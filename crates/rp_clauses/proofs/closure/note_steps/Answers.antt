use Rattle.std.proofs.Common.{arith}
use Rattle.rp_evidence.specs.Preference.{IsWeak}
use Rattle.rp_table.specs.Cost.{cost_of}
use Rattle.rp_table.specs.Tables.{records_of}
use Rattle.rp_clauses.proofs.BitRows.{noted_row}
use Rattle.rp_clauses.proofs.closure.note_steps.Goals as goal

pub loop-s-preserved : goal.loop-s-preserved
loop-s-preserved c =
    let table = c.args.input.now.table.now in
    noted_row 512 (records_of table) (IsWeak (cost_of table)) c.loop-s.rows c.loop-s.s c.loop-s.invariant
    (omega (arith, c.loop-s-test.true, c.loop-s.auto.s-end, c.n-s-end.ensures.few)) c.steps_from.result c.steps_from.ensures
