use Rattle.std.proofs.Common.{arith}
use Rattle.rp_table.specs.Cost.{cost_at}
use Rattle.rp_table.proofs.CostLimits.{cost_positive}
use Rattle.rp_fit.proofs.ClosedWeakWalks.{closed_observed}
use Rattle.rp_pump.proofs.SummedWalks.{swapped_within}
use Rattle.rp_pump.proofs.Rounds.{some_walk_spent}
use Rattle.rp_pump.proofs.sums.gained_and_spent.Goals as goal

pub spent_along-spent-requires-clause-some : goal.spent_along-spent-requires-clause-some
spent_along-spent-requires-clause-some c = omega (arith, c.requires.closed.2)

pub spent_along-spent-requires-clause-observed : goal.spent_along-spent-requires-clause-observed
spent_along-spent-requires-clause-observed c = closed_observed c.args.costs.now.n (cost_at c.args.costs.now) c.args.walk.now c.requires.closed

pub swapped_along-requires-clause-observed : goal.swapped_along-requires-clause-observed
swapped_along-requires-clause-observed c = closed_observed c.args.costs.now.n (cost_at c.args.costs.now) c.args.walk.now c.requires.closed

pub overflow_sub-gain : goal.overflow_sub-gain
overflow_sub-gain c =
    let within = swapped_within c.args.costs.now.n (cost_at c.args.costs.now) c.args.walk.now c.requires.closed in
    omega (arith, within, c.spent_along-spent.ensures.sum, c.swapped_along.ensures.sum)

pub returns-clause-gained : goal.returns-clause-gained
returns-clause-gained c =
    let within = swapped_within c.args.costs.now.n (cost_at c.args.costs.now) c.args.walk.now c.requires.closed in
    omega (arith, within, c.spent_along-spent.ensures.sum, c.swapped_along.ensures.sum)

pub returns-clause-some : goal.returns-clause-some
returns-clause-some c =
    let costs = c.args.costs.now in
    let some = some_walk_spent costs.n (cost_at costs) c.args.walk.now (λ s s_in. cost_positive costs c.n-n.ensures.valid s s s_in s_in) c.requires.closed in
    omega (arith, some, c.spent_along-spent.ensures.sum)
