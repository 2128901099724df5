use Rattle.std.proofs.Common.{◌≤◌, ◌^◌, arith}
use Rattle.rp_offered.proofs.Sizes.{small_cost}
use Rattle.rp_offered.proofs.offered.share.Goals as goal

pub scaled-spent-requires-clause-few : goal.scaled-spent-requires-clause-few
scaled-spent-requires-clause-few c = omega (arith, c.price_places.ensures, c.n.ensures.valid.few_price_places)

pub overflow_mul-spent : goal.overflow_mul-spent
overflow_mul-spent c =
    let money : c.cost.result ≤ 2 ^ 48 =
    small_cost c.from-x.result c.from-b.result c.from-y.result c.from-a.result c.cost.result c.cost.ensures.exact
    (omega (arith, c.from-x.ensures, c.quantity.ensures.within)) (omega (arith, c.from-b.ensures, c.price.ensures.within))
    (omega (arith, c.from-y.ensures, c.quantity-2.ensures.within)) (omega (arith, c.from-a.ensures, c.price-2.ensures.within)) in
    omega (arith, c.scaled-spent.ensures.small_fits money)

pub scaled-requires-clause-few : goal.scaled-requires-clause-few
scaled-requires-clause-few c = omega (arith, c.quantity_places.ensures, c.n.ensures.valid.few_quantity_places)
