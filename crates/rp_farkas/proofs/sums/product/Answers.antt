use Rattle.rp_farkas.proofs.SumSteps.{product_fits, product_read}
use Rattle.rp_farkas.proofs.sums.product.Goals as goal

pub overflow_mul-result : goal.overflow_mul-result
overflow_mul-result c = product_fits c.args.entry c.from.result c.from-2.result c.args.number c.ranges.entry c.requires c.from.type_inv c.from-2.type_inv c.from.ensures c.from-2.ensures

pub returns : goal.returns
returns c = product_read c.args.entry c.from.result c.from-2.result c.args.number c.ranges.entry c.requires c.from.type_inv c.from-2.type_inv c.from.ensures c.from-2.ensures
