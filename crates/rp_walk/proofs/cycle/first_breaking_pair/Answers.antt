use Rattle.std.proofs.Common.{below_more}
use Rattle.rp_walk.specs.InnerPairs.{NoPartnerBelow}
use Rattle.rp_walk.proofs.Traces.{IsFirstBreakingPair-found}
use Rattle.rp_walk.proofs.cycle.first_breaking_pair.Goals as goal

pub returns-in-Some-clause-first : goal.returns-in-Some-clause-first
returns-in-Some-clause-first g c =
    IsFirstBreakingPair-found (g.T.Total.rule c.args.total.now) c.loop-s.s c.in-Some.t c.in-Some.ensures.after c.in-Some.ensures.within
    c.in-Some.ensures.breaks c.in-Some.ensures.first c.loop-s.invariant

pub loop-s-preserved : goal.loop-s-preserved
loop-s-preserved g c =
    let w = g.T.Total.rule c.args.total.now in
    below_more (λ s. NoPartnerBelow w s w.count) c.loop-s.s c.loop-s.invariant c.in-None.ensures.none
