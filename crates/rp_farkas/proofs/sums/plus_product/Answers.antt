use Rattle.rp_farkas.proofs.SumSteps.{sum_fits, sum_read}
use Rattle.rp_farkas.proofs.sums.plus_product.Goals as goal

pub overflow_add-result : goal.overflow_add-result
overflow_add-result c = sum_fits c.args.sum c.product.result c.args.entry c.args.number c.ranges.sum c.ranges.entry c.requires.room c.requires.entry c.requires.number c.product.type_inv c.product.ensures

pub returns : goal.returns
returns c = sum_read c.args.sum c.product.result c.args.entry c.args.number c.ranges.sum c.ranges.entry c.requires.room c.requires.entry c.requires.number c.product.type_inv c.product.ensures
