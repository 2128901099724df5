use Rattle.std.proofs.Common.{◌≤◌, ◌*◌, ◌^◌, below_more, slice_index}
use Rattle.rp_table.specs.Cost.{cost_of}
use Rattle.rp_check_walk_levels.proofs.homothetic_level.bounds_products_from.Goals as goal

pub loop-t-preserved : goal.loop-t-preserved
loop-t-preserved c =
    let cost = cost_of c.args.input.now.table.now in
    let values = c.args.values.now in
    below_more (λ t. (slice_index values t * c.args.low) * cost c.args.s c.args.s ≤ (slice_index values c.args.s * cost c.args.s t) * 2 ^ 40) c.loop-t.t c.loop-t.invariant (c.bounds_product.ensures.0 c.if-not-bounds_product.false)
