use Rattle.std.proofs.Common.{IsTrue}
use Rattle.rp_evidence.specs.Bits.{bit_in}
use Rattle.rp_clauses.proofs.MarkLemmas.{IsTakenTo}
use Rattle.rp_clauses.proofs.closure.mark_bits.Given as goal

abbrev pub invariant-loop-t : goal.invariant-loop-t
invariant-loop-t l = IsTakenTo (λ t. IsTrue (bit_in l.row t)) l.fn.marks l.marks l.t
