use Rattle.rp_many_words.proofs.Multiplied.{IsMultipliedTo}
use Rattle.rp_many_words.proofs.product.multiply.Given as goal

abbrev pub invariant-loop-k : goal.invariant-loop-k
invariant-loop-k l = IsMultipliedTo l.fn.words l.words l.by l.carry l.k
