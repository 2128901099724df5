use Rattle.rp_whole_tableau.proofs.ReadOffs.{pair_taken, point_by, some_prices}
use Rattle.rp_whole_tableau.proofs.grown.Grown.pair.Goals as goal

pub pair_by-requires : goal.pair_by-requires
pair_by-requires c =
    let with = c.divisor_with_prices-common.ensures in
    point_by c.args.self.now.tableau c.divisor_of_point.result c.divisor_with_prices-common.result with.some with.divides c.divisor_of_point.ensures

pub returns-in-Some : goal.returns-in-Some
returns-in-Some c =
    let g = c.args.self.now in
    let common = c.divisor_with_prices-common.result in
    pair_taken g common c.in-Some.prices.items c.pair_by.result
    (some_prices g.tableau common c.in_ok-prices.field-0 c.in-Some.prices c.in-Some.is c.in_ok-prices.ensures.exact c.divisor_with_prices-common.ensures.prices)
    c.pair_by.ensures
