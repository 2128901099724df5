use Rattle.std.proofs.Common.{arith}
use Rattle.rp_simplex.proofs.FirstTableauLemmas.{first_tableau, starting_fits, starting_objective, starting_slacks}
use Rattle.rp_simplex.proofs.first.first_stage.Goals as goal

pub largest_of-largest-requires : goal.largest_of-largest-requires
largest_of-largest-requires g c = record {
  small = λ j hj s hs.
      (c.in_ok-columns.ensures.entries j s (omega (arith, c.in_ok-columns.ensures.count)) (omega (arith, c.in_ok-columns.ensures.height, c.in_ok-columns.ensures.equal j hj))).small;
}

pub invariant_of-result-clause-slacks : goal.invariant_of-result-clause-slacks
invariant_of-result-clause-slacks g c = λ k s hk hs. starting_slacks (g.P.Lp.program c.args.p.now) c.in_ok-columns.columns c.in_ok-columns.ensures.entries k s (omega arith) (omega arith)

pub invariant_of-result-clause-objective : goal.invariant_of-result-clause-objective
invariant_of-result-clause-objective g c = λ i hi. starting_objective c.rows-rows.result c.in_ok-multipliers.multipliers (λ i s hi hs. c.in_ok-multipliers.ensures.units i s (omega arith) (omega arith)) i hi

pub invariant_of-result-clause-entries_fit : goal.invariant_of-result-clause-entries_fit
invariant_of-result-clause-entries_fit g c = λ i j hi hj.
    starting_fits c.rows-rows.result c.in_ok-multipliers.multipliers (λ i s hi hs. c.in_ok-multipliers.ensures.units i s (omega arith) (omega arith)) c.in_ok-columns.columns i j hi
    (c.in_ok-columns.ensures.entries j i (omega arith) (omega arith)).small

pub invariant_of-result-clause-small : goal.invariant_of-result-clause-small
invariant_of-result-clause-small g c = λ j hj. c.largest_of-largest.ensures.bounds j (omega (arith, c.in_ok-columns.ensures.count))

pub returns-clause-first : goal.returns-clause-first
returns-clause-first g c =
    first_tableau (g.P.Lp.program c.args.p.now) c.rows-rows.result c.in_ok-multipliers.multipliers c.in_ok-columns.columns c.in_ok-basis.basis.items c.rows-rows.ensures
    (λ i s hi hs. c.in_ok-multipliers.ensures.units i s (omega arith) (omega arith)) c.in_ok-columns.ensures.entries c.in_ok-basis.ensures.slacks
