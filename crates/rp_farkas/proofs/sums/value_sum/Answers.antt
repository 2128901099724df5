use Rattle.std.proofs.Common.{sym, ◌∙◌, arith}
use mir.Val.{to_z}
use Rattle.std.specs.Int.{w128}
use Rattle.rp_farkas.specs.declared.entry.Entry.{Entry}
use Rattle.rp_farkas.proofs.SumSteps.{room_left, listing_short, total-listing, listed_total-end, listing_kept}
use Rattle.rp_farkas.proofs.sums.value_sum.Goals as goal

pub plus_product-sum-requires-clause-room : goal.plus_product-sum-requires-clause-room
plus_product-sum-requires-clause-room g c =
    let limits = g.met.P.Lp.within_limits c.args.p.now in
    let short = listing_short (g.P.Lp.program c.args.p.now).cols c.args.y.now c.requires in
    room_left (to_z w128 c.loop-entry.sum-bits) c.loop-entry.entry-index c.loop-entry.invariant.1 (omega (arith, limits.cols_at_most))

pub loop-entry-preserved : goal.loop-entry-preserved
loop-entry-preserved g c =
    let d : Entry = record { at = 0; value = 0 } in
    let limits = g.met.P.Lp.within_limits c.args.p.now in
    let short = listing_short (g.P.Lp.program c.args.p.now).cols c.args.y.now c.requires in
    listing_kept (g.P.Lp.program c.args.p.now).c c.args.y.now c.loop-entry.entry-index d _ c.plus_product-sum.result c.c.result _
    c.loop-entry-test.true (omega (arith, limits.cols_at_most))
    (limits.c_bounded _ (c.requires.columns _ d c.loop-entry-test.true))
    (c.requires.fitting _ d c.loop-entry-test.true)
    c.loop-entry.invariant c.plus_product-sum.type_inv c.c.type_inv c.plus_product-sum.ensures c.c.ensures

pub returns : goal.returns
returns g c =
    listed_total-end _ _ _ _ _ c.loop-entry-test.false c.loop-entry.invariant.0
    ∙ sym (total-listing (g.P.Lp.program c.args.p.now).c (g.P.Lp.program c.args.p.now).cols c.args.y.now c.requires)
