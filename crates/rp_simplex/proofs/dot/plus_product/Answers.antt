use Rattle.rp_simplex.proofs.DotLemmas.{plus_read}
use Rattle.rp_simplex.proofs.dot.plus_product.Goals as goal

pub returns : goal.returns
returns c = plus_read c.args.sum c.args.multiplier c.args.entry c.from.result c.from-2.result c.requires.room c.requires.fits c.requires.small c.from.ensures c.from-2.ensures
