use Rattle.std.proofs.Common.{List, ℕ, arith, subst}
use Rattle.rp_table.specs.Cost.{cost_at}
use Rattle.rp_table.proofs.CostLimits.{cost_positive}
use Rattle.rp_pump.specs.InnerBest.{IsBest}
use Rattle.rp_pump.proofs.Outcomes.{comes_nearer, gives_away, has_least, holds, is_greater, stays_narrow}
use Rattle.rp_fit.proofs.PumpIndex.{index_of, pumps_where_garp_fails}
use Rattle.rp_pump.proofs.search.pump.Goals as goal

pub unreachable-requires : goal.unreachable-requires
unreachable-requires c =
    let best = c.rounds.best in
    stays_narrow c.args.costs.now c.n-n.ensures.valid best.num best.den best.cycle c.rounds.invariant.best c.in-Wide.steps c.in-Wide.from c.in-Wide.to
    (rw c.in-Wide.is at c.in_ok-values.ensures)

pub of-best-requires : goal.of-best-requires
of-best-requires c =
    let best = c.rounds.best in
    let found = is_greater c.args.costs.now c.n-n.ensures.valid best.num best.den best.cycle c.rounds.invariant.best _ c.in-Cycle.steps (rw c.in-Cycle.is at c.in_ok-values.ensures) in
    record { few = found.few; closed = found.closed }

pub rounds-smaller : goal.rounds-smaller
rounds-smaller c =
    let costs = c.args.costs.now in
    let best = c.rounds.best in
    let found = c.of-best.result in
    comes_nearer costs c.n-n.ensures.valid best.num best.den best.cycle c.rounds.invariant.best _ c.in-Cycle.steps found.num found.den (rw c.in-Cycle.is at c.in_ok-values.ensures)
    (subst (λ (walk : List ℕ). IsBest costs.n (cost_at costs) found.num found.den walk) c.of-best.ensures.same c.of-best.ensures.best)

pub rounds-preserved : goal.rounds-preserved
rounds-preserved c =
    let costs = c.args.costs.now in
    let best = c.rounds.best in
    let found = c.of-best.result in
    let is : IsBest costs.n (cost_at costs) found.num found.den found.cycle = c.of-best.ensures.best in
    let some = gives_away costs c.n-n.ensures.valid best.num best.den best.cycle c.rounds.invariant.best _ c.in-Cycle.steps found.num found.den (rw c.in-Cycle.is at c.in_ok-values.ensures)
    (subst (λ (walk : List ℕ). IsBest costs.n (cost_at costs) found.num found.den walk) c.of-best.ensures.same is) in
    record { best = is; resting = λ none. absurd (omega (arith, none, some)) }

pub returns-in-Values-clause-accepted : goal.returns-in-Values-clause-accepted
returns-in-Values-clause-accepted c =
    let best = c.rounds.best in
    holds c.args.costs.now c.n-n.ensures.valid best.num best.den best.cycle c.rounds.invariant.best c.in-Values.values (rw c.in-Values.is at c.in_ok-values.ensures)

pub returns-in-Values-clause-least : goal.returns-in-Values-clause-least
returns-in-Values-clause-least c =
    let best = c.rounds.best in
    has_least c.args.costs.now c.n-n.ensures.valid best.num best.den best.cycle c.rounds.invariant.best c.in-Values.values (rw c.in-Values.is at c.in_ok-values.ensures)

pub returns-in-Values-clause-index : goal.returns-in-Values-clause-index
returns-in-Values-clause-index c =
    let costs = c.args.costs.now in
    let best = c.rounds.best in
    index_of costs.n (cost_at costs) _
    (holds costs c.n-n.ensures.valid best.num best.den best.cycle c.rounds.invariant.best c.in-Values.values (rw c.in-Values.is at c.in_ok-values.ensures))

pub returns-in-Values-clause-garp : goal.returns-in-Values-clause-garp
returns-in-Values-clause-garp c =
    let costs = c.args.costs.now in
    let best = c.rounds.best in
    pumps_where_garp_fails costs.n (cost_at costs) best.num best.den (λ s s_in. cost_positive costs c.n-n.ensures.valid s s s_in s_in)
    (index_of costs.n (cost_at costs) _
    (holds costs c.n-n.ensures.valid best.num best.den best.cycle c.rounds.invariant.best c.in-Values.values (rw c.in-Values.is at c.in_ok-values.ensures)))
