use Rattle.rp_evidence.proofs.Rounds.{HasClosed}
use Rattle.rp_clauses.specs.InnerBits.{has_bit}
use Rattle.rp_clauses.proofs.closure.close.Given as goal

abbrev pub invariant-loop-k : goal.invariant-loop-k
invariant-loop-k l = HasClosed l.n (has_bit l.fn.rows) (has_bit l.rows) l.k
