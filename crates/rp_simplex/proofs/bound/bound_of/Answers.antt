use Rattle.std.proofs.Common.{slice_index, subst}
use Rattle.rp_num.specs.Fraction.{IsLowestTerms}
use Rattle.rp_farkas.specs.Measure.{measured}
use Rattle.rp_farkas.specs.declared.measure.Measure.{Measure}
use Rattle.rp_simplex.specs.Evidence.{IsEvidence}
use Rattle.rp_simplex.specs.declared.outcome.Outcome.{Outcome}
use Rattle.rp_farkas.proofs.Costs.{cost_whole, prices_bound}
use Rattle.rp_simplex.proofs.RunBounds.{least_in_lowest_terms, never_unbounded, shown, withheld}
use Rattle.rp_simplex.proofs.bound.bound_of.Goals as goal

pub unreachable-requires : goal.unreachable-requires
unreachable-requires g c =
    let p = g.P.Lp.program c.args.p.now in
    let run = c.in_ok-pair.ensures in
    never_unbounded p (measured p c.args.measure) c.in_ok-pair.field-0 run.outcome run.only run.evidence (prices_bound p c.requires.prices)
    c.in-Unbounded.den c.in-Unbounded.point c.in-Unbounded.ray c.in-Unbounded.is

pub returns-in-Optimal-clause-bound : goal.returns-in-Optimal-clause-bound
returns-in-Optimal-clause-bound g c =
    let p = g.P.Lp.program c.args.p.now in
    let run = c.in_ok-pair.ensures in
    shown p (measured p c.args.measure) c.in_ok-pair.field-0 run.outcome run.only run.evidence c.in-Optimal.pair c.new-value.result c.in-Optimal.is
    (rw (c.of-num.ensures.exact, c.from.ensures, c.as_slice.ensures) at c.new-value.ensures.lowest)

pub returns-in-Optimal-clause-least : goal.returns-in-Optimal-clause-least
returns-in-Optimal-clause-least g c = λ is_cost.
    let p = g.P.Lp.program c.args.p.now in
    let pair = c.in-Optimal.pair in
    let lowest = rw (c.of-num.ensures.exact, c.from.ensures, c.as_slice.ensures) at c.new-value.ensures.lowest in
    least_in_lowest_terms p (cost_whole p (g.met.P.Lp.within_limits c.args.p.now).b_not_negative) pair.den (slice_index pair.x)
    (subst (λ (r : Outcome). IsEvidence p r) c.in-Optimal.is c.in_ok-pair.ensures.evidence).2 c.new-value.result
    (subst (λ (m : Measure). IsLowestTerms (measured p m (slice_index pair.x)) pair.den c.new-value.result) is_cost lowest)

pub returns-in-Wide-clause-bound : goal.returns-in-Wide-clause-bound
returns-in-Wide-clause-bound g c =
    let p = g.P.Lp.program c.args.p.now in
    let run = c.in_ok-pair.ensures in
    withheld p (measured p c.args.measure) c.in_ok-pair.field-0 run.outcome run.only run.evidence c.in-Wide.step c.in-Wide.is
