use Rattle.rp_clauses.proofs.TakenIn.{IsTakenIn}
use Rattle.rp_clauses.proofs.bits.take_in.Given as goal

abbrev pub invariant-loop-word : goal.invariant-loop-word
invariant-loop-word l = IsTakenIn l.fn.row l.row l.from l.word
