use Rattle.std.proofs.Common.{sym, arith}
use Rattle.rp_effic.proofs.Indexed.{cycle_there, place_by_one}
use Rattle.rp_effic.proofs.sampling.sampled_bracket.Goals as goal

pub ratio_before-requires-clause-place : goal.ratio_before-requires-clause-place
ratio_before-requires-clause-place c =
    let ratios = c.in_ok-ratios.ratios.items in
    let first = rw c.deref.ensures.value at c.in_ok-place.ensures in
    rw c.deref-2.ensures.value (place_by_one c.args.costs.now c.n-n.ensures.valid ratios c.in_ok-place.place first c.in_ok-ratios.ensures.one)

pub index-requires : goal.index-requires
index-requires c =
    let ratios = c.in_ok-ratios.ratios.items in
    let first = rw c.deref.ensures.value at c.in_ok-place.ensures in
    let within = place_by_one c.args.costs.now c.n-n.ensures.valid ratios c.in_ok-place.place first c.in_ok-ratios.ensures.one in
    omega (arith, within, c.in_ok-ratios.ratios.ok.0)

pub returns : goal.returns
returns c =
    let ratios = c.in_ok-ratios.ratios.items in
    let place = c.in_ok-place.place in
    let first = rw c.deref.ensures.value at c.in_ok-place.ensures in
    let within = place_by_one c.args.costs.now c.n-n.ensures.valid ratios place first c.in_ok-ratios.ensures.one in
    record {
      none_at_low = c.ratio_before.ensures.none;
      low_den = c.ratio_before.ensures.positive;
      some_at_high = cycle_there c.args.costs.now c.n-n.ensures.valid ratios place first within c.index.result.now (sym c.index.ensures);
    }
