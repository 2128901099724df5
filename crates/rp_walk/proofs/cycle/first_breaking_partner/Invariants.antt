use Rattle.rp_walk.specs.InnerPairs.{NoPartnerBelow}
use Rattle.rp_walk.proofs.cycle.first_breaking_partner.Given as goal

abbrev pub invariant-loop-t : goal.invariant-loop-t
invariant-loop-t g l = NoPartnerBelow (g.T.Total.rule l.total) l.s l.t
