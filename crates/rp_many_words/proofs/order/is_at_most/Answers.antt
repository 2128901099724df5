use Rattle.std.proofs.Common.{arith}
use Rattle.std.proofs.Math.Facts.{Fits-lt-pow}
use Rattle.rp_many_words.proofs.Compared.{one_more_compared}
use Rattle.rp_many_words.proofs.order.is_at_most.Goals as goal

pub loop-k-preserved : goal.loop-k-preserved
loop-k-preserved c =
    one_more_compared c.args.a.now c.args.b.now c.loop-k.k (omega arith) (omega (arith, c.requires)) (Fits-lt-pow (c.type_inv.a c.loop-k.k)) (Fits-lt-pow (c.type_inv.b c.loop-k.k)) c.loop-k.at_most c.with_word-at_most.result c.with_word-at_most.ensures c.loop-k.invariant
