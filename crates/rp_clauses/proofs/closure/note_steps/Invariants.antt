use Rattle.rp_evidence.specs.Preference.{IsWeak}
use Rattle.rp_table.specs.Cost.{cost_of}
use Rattle.rp_table.specs.Tables.{records_of}
use Rattle.rp_clauses.proofs.BitRows.{HasNotedRows}
use Rattle.rp_clauses.proofs.closure.note_steps.Given as goal

abbrev pub invariant-loop-s : goal.invariant-loop-s
invariant-loop-s l = HasNotedRows 512 (records_of l.input.table.now) (IsWeak (cost_of l.input.table.now)) l.rows l.s
