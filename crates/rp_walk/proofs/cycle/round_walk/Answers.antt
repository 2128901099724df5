use Rattle.std.proofs.Common.{arith, ◌+◌, ◌*◌, ◌-◌, refl, ap, get_or}
use Rattle.std.proofs.lemmas.List.{get_or_read}
use Rattle.rp_walk.proofs.Traces.{IsTraced-start, IsTraced-back}
use Rattle.rp_walk.proofs.cycle.round_walk.Goals as goal

pub loop-round-init : goal.loop-round-init
loop-round-init g c =
    IsTraced-start (g.T.Total.rule c.args.total.now) _ _ _ c.args.end c.n-n.ensures.value c.n.ensures.value c.in_ok-walk.ensures
    c.requires.end_first

pub loop-round-preserved : goal.loop-round-preserved
loop-round-preserved g c =
    let w = g.T.Total.rule c.args.total.now in
    let round = c.loop-round.round in
    let to = get_or_read c.loop-round.walk.items _ c.index.result.now
    (omega (arith, c.loop-round.invariant.len, c.loop-round.invariant.round_in, c.loop-round-test.true)) c.index.ensures 0 in
    IsTraced-back w c.args.history.now c.loop-round.walk.items round _ c.index.result.now _
    c.loop-round.invariant c.loop-round-test.true refl c.requires.remembers to
    (ap (λ n. get_or c.args.history.now ((round - 1) * n + c.index.result.now) 0) c.n-n.ensures.value)
