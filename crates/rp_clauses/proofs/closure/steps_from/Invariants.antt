use Rattle.rp_evidence.specs.Preference.{IsWeak}
use Rattle.rp_table.specs.Cost.{cost_of}
use Rattle.rp_clauses.proofs.BitRows.{HasNoted}
use Rattle.rp_clauses.proofs.closure.steps_from.Given as goal

abbrev pub invariant-loop-t : goal.invariant-loop-t
invariant-loop-t l = HasNoted (IsWeak (cost_of l.input.table.now) l.s) l.row l.t
