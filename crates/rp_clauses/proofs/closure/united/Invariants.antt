use Rattle.rp_clauses.proofs.MarkLemmas.{IsReachedFromFirst}
use Rattle.rp_clauses.proofs.closure.united.Given as goal

abbrev pub invariant-loop-s : goal.invariant-loop-s
invariant-loop-s l = IsReachedFromFirst l.rows l.marks l.row l.s
