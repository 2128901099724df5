use Rattle.std.proofs.Common.{sym, arith}
use Rattle.rp_pref.proofs.LevelOrder.{level_den}
use Rattle.rp_effic.proofs.Indexed.{index_at_place, place_within}
use Rattle.rp_effic.proofs.index.efficiency_index.Goals as goal

pub index-ratio-requires : goal.index-ratio-requires
index-ratio-requires c =
    let first = rw c.deref.ensures.value at c.in_ok-place.ensures in
    let within = place_within c.args.costs.now c.n-n.ensures.valid c.in_ok-ratios.ratios.items c.in_ok-place.place first
    c.in_ok-ratios.ensures.rise c.in_ok-bracket.bracket c.in_ok-bracket.ensures c.in_ok-ratios.ensures.between in
    omega (arith, within, c.in_ok-ratios.ratios.ok.0)

pub returns-clause-index : goal.returns-clause-index
returns-clause-index c =
    let first = rw c.deref.ensures.value at c.in_ok-place.ensures in
    index_at_place c.args.costs.now c.n-n.ensures.valid c.in_ok-ratios.ratios.items c.in_ok-place.place first
    c.in_ok-ratios.ensures.rise c.in_ok-bracket.bracket c.in_ok-bracket.ensures c.in_ok-ratios.ensures.between
    c.index-ratio.result.now c.in_lowest_terms-num.result.0 c.in_lowest_terms-num.result.1 (sym c.index-ratio.ensures) c.in_lowest_terms-num.ensures.lowest

pub in_lowest_terms-num-requires : goal.in_lowest_terms-num-requires
in_lowest_terms-num-requires c =
    let ratio = c.index-ratio.result.now in
    level_den ratio.num ratio.den ratio.level
