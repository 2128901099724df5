use Rattle.std.proofs.Common.{arith, ◌<◌, ◌≤◌, length, sym, get_or, ◌∙◌, ap}
use Rattle.std.proofs.lemmas.List.{get_or_read}
use Rattle.rp_walk.proofs.Nexts.{IsNext-more, IsNext-idle, TriedFits-more, TriedFits-idle}
use Rattle.rp_walk.proofs.Tries.{totals_of-at}
use Rattle.rp_walk.proofs.round.next_round.Goals as goal
use Rattle.rp_walk.proofs.round.next_round.Goals.{then-index-n+in-None, else-index-n}

pub loop-from-preserved : goal.loop-from-preserved
loop-from-preserved g c =
    let w = g.T.Total.rule c.args.total.now in
    let inv = c.loop-from.invariant in
    let t = c.loop-from.from in
    let below : t < w.count = omega (arith, c.n-n.ensures.value, c.loop-from-test.true) in
    let in_from : t < length c.args.round.now.from.items = omega (arith, c.requires.from_len) in
    let in_values : t < length c.args.round.now.values.items = omega (arith, c.requires.values_len) in
    let here = get_or_read c.args.round.now.from.items t _ in_from c.index.ensures 0 in
    elim c.if-index-n.branch [
      | then-index-n+in-None v ↦ (
          let tried = v.in-None.ensures.tried in
          let live : get_or c.args.round.now.from.items t 0 < w.count = omega (arith, here, v.if-index-n.true, c.n-n.ensures.value) in
          let is_x = totals_of-at g.T.Total.exact w.empty c.args.round.now.values.items t v.index-v.result.now in_values ∙ ap g.T.Total.exact {x = get_or c.args.round.now.values.items t v.index-v.result.now} (sym v.index-v.ensures) in
          rw v.next-is (record {
            values_len = tried.values_len ∙ inv.values_len;
            from_len = tried.from_len ∙ inv.from_len;
            next = IsNext-more w g.T.Total.exact _ _ t _ _ _ _ _ inv.next below live is_x tried;
            fit = TriedFits-more w g.T.Total.fits _ _ t _ inv.fit is_x v.in-None.ensures.fit;
          }))
      | else-index-n v ↦ (
          let idle : w.count ≤ get_or c.args.round.now.from.items t 0 = omega (arith, here, v.if-index-n.false, c.n-n.ensures.value) in
          rw v.next-is (record {
            values_len = inv.values_len;
            from_len = inv.from_len;
            next = IsNext-idle w _ _ t _ _ inv.next idle;
            fit = TriedFits-idle w g.T.Total.fits _ _ t inv.fit idle;
          }))
    ]
