use Rattle.rp_many_words.proofs.Compared.{IsComparedTo}
use Rattle.rp_many_words.proofs.order.is_at_most.Given as goal

abbrev pub invariant-loop-k : goal.invariant-loop-k
invariant-loop-k l = IsComparedTo l.a l.b l.at_most l.k
