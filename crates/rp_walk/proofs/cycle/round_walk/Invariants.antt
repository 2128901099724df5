use Rattle.rp_walk.proofs.Traces.{IsTraced}
use Rattle.rp_walk.proofs.cycle.round_walk.Given as goal

abbrev pub invariant-loop-round : goal.invariant-loop-round
invariant-loop-round g l = IsTraced (g.T.Total.rule l.total) l.round l.walk.items

abbrev pub decreases-loop-round : goal.decreases-loop-round
decreases-loop-round g l = l.round
