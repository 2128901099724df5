use Rattle.std.proofs.Common.{arith, ◌≤◌}
use Rattle.rp_table.specs.Cost.{cost_at}
use Rattle.rp_table.proofs.CostLimits.{cost_below}
use Rattle.rp_limits.specs.declared.table.TheConstants.{RECORDS}
use Rattle.rp_evidence.specs.declared.quasilinear.Quasi.TheVariants.{Cycle, Values}
use Rattle.rp_people.proofs.TablesOfCosts.{quasilinear_of_each}
use Rattle.rp_quasi.proofs.Verdicts.{IsLeastSum-least, HasLeastTotals-values, MeetsQuasilinearTest-least, GivesNegativeCycle-settled, IsNegativeCycle-falls, BoundSteps-least, IsLimitedSum-least, sums_stay_narrow}
use Rattle.rp_quasi.proofs.quasilinear_verdict.quasilinear.Goals as goal

pub unreachable-requires : goal.unreachable-requires
unreachable-requires c =
    let costs = c.args.costs.now in
    let few : costs.n ≤ RECORDS = omega (arith, c.n-n.ensures.valid.few) in
    sums_stay_narrow costs.n (cost_at costs) few (cost_below costs c.n-n.ensures.valid) c.in-Wide.steps c.in-Wide.from c.in-Wide.to
    (rw c.in-Wide.is at c.in_ok-values.ensures)

pub returns-in-Values-clause-verdict : goal.returns-in-Values-clause-verdict
returns-in-Values-clause-verdict c =
    let costs = c.args.costs.now in
    let few : costs.n ≤ RECORDS = omega (arith, c.n-n.ensures.valid.few) in
    let h = rw c.in-Values.is at c.in_ok-values.ensures in (
      record {
        one_each = h.one_each;
        least = λ s hs. IsLeastSum-least costs.n (cost_at costs) s _ (h.least s _ hs);
        limits = λ s hs. IsLimitedSum-least costs.n (cost_at costs) few (cost_below costs c.n-n.ensures.valid) s _ hs (h.least s _ hs);
      },
      MeetsQuasilinearTest-least costs.n (cost_at costs) (HasLeastTotals-values costs.n (cost_at costs) c.in-Values.values h.least),
    )

pub returns-in-Values-clause-proves : goal.returns-in-Values-clause-proves
returns-in-Values-clause-proves c =
    let costs = c.args.costs.now in
    let h = rw c.in-Values.is at c.in_ok-values.ensures in (
      BoundSteps-least costs.n (cost_at costs) c.in-Values.values h.one_each h.least,
      MeetsQuasilinearTest-least costs.n (cost_at costs) (HasLeastTotals-values costs.n (cost_at costs) c.in-Values.values h.least),
    )

pub returns-in-Cycle-clause-verdict : goal.returns-in-Cycle-clause-verdict
returns-in-Cycle-clause-verdict c =
    let costs = c.args.costs.now in
    let h = rw c.in-Cycle.is at c.in_ok-values.ensures in
    GivesNegativeCycle-settled costs.n (cost_at costs) _ c.in-Cycle.steps h

pub returns-in-Cycle-clause-proves : goal.returns-in-Cycle-clause-proves
returns-in-Cycle-clause-proves c =
    let costs = c.args.costs.now in
    let h = rw c.in-Cycle.is at c.in_ok-values.ensures in
    IsNegativeCycle-falls costs.n (cost_at costs) _ c.in-Cycle.steps h.falls

pub returns-in-Values-clause-says : goal.returns-in-Values-clause-says
returns-in-Values-clause-says c = quasilinear_of_each c.args.costs.now (Values c.in-Values.values) (returns-in-Values-clause-proves c)

pub returns-in-Cycle-clause-says : goal.returns-in-Cycle-clause-says
returns-in-Cycle-clause-says c = quasilinear_of_each c.args.costs.now (Cycle c.in-Cycle.steps) (returns-in-Cycle-clause-proves c)
