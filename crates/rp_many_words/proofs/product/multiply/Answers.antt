use Rattle.std.proofs.Common.{arith}
use Rattle.rp_many_words.proofs.Multiplied.{one_more_multiplied}
use Rattle.rp_many_words.proofs.product.multiply.Goals as goal

pub loop-k-preserved : goal.loop-k-preserved
loop-k-preserved c =
    one_more_multiplied c.args.words.now c.loop-k.words c.args.by c.loop-k.carry c.loop-k.k c.word_product-low.result.0 c.word_product-low.result.1
    (omega (arith, c.loop-k.invariant.long)) c.loop-k.invariant c.word_product-low.ensures
