use Rattle.rp_check_walk_levels.proofs.ManyWordProducts.{same_products}
use Rattle.rp_table.specs.Cost.{cost_of}
use Rattle.std.proofs.Common.{slice_index}
use Rattle.rp_check_walk_levels.proofs.homothetic_level.bounds_product.Goals as goal

pub returns : goal.returns
returns c =
    let cost = cost_of c.args.input.now.table.now in
    let values = c.args.values.now in
    same_products c.is_product_at_most.result (slice_index values c.args.t) c.args.low (cost c.args.s c.args.s) (slice_index values c.args.s) (cost c.args.s c.args.t)
    c.product-there.result c.product-here.result c.cost-spent.result c.cost-next.result c.product-there.ensures c.product-here.ensures c.cost-spent.ensures.exact c.cost-next.ensures.exact c.is_product_at_most.ensures
