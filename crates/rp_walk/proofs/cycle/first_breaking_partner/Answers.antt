use Rattle.rp_walk.proofs.Traces.{NoPartnerBelow-more}
use Rattle.rp_walk.proofs.cycle.first_breaking_partner.Goals as goal

pub returns-then-pair_breaks-clause-breaks : goal.returns-then-pair_breaks-clause-breaks
returns-then-pair_breaks-clause-breaks g c = c.pair_breaks.ensures.0 c.if-pair_breaks.true

pub loop-t-preserved : goal.loop-t-preserved
loop-t-preserved g c =
    NoPartnerBelow-more (g.T.Total.rule c.args.total.now) c.args.s c.loop-t.t c.loop-t.invariant
    (λ breaks. let q = c.pair_breaks.ensures.1 breaks in let r = c.if-pair_breaks.false in cc)
