use Rattle.std.proofs.Common.{arith, subst, List, All, ◌≡◌, ℕ, length}
use Rattle.rp_num.specs.Fraction.{Fraction, FitsWidth, IsLowestTerms}
use Rattle.rp_table.specs.Cost.{cost_at}
use Rattle.rp_table.proofs.CostLimits.{cost_below, cost_positive}
use Rattle.rp_evidence.specs.declared.homothetic.Homothetic.TheVariants.{Cycle, Values}
use Rattle.rp_people.proofs.TablesOfCosts.{homothetic_of_each}
use Rattle.rp_homo.proofs.Verdicts.{AllFit, AllLowest, BoundProducts-least, GivesCycle-settled, GivesValues-settled, GivesWithheld-settled, IsFallingCycle-falls}
use Rattle.rp_homo.proofs.homothetic_verdict.homothetic.Goals as goal

lowest : (n : ℕ) (values slice : List Fraction) → length values ≡ n → slice ≡ values → All (λ (f : Fraction). IsLowestTerms f.num f.den f) slice → AllLowest n values
lowest n values slice len e h s hs = (subst (λ (xs : List Fraction). All (λ (f : Fraction). IsLowestTerms f.num f.den f) xs) e h) s _ (omega arith)

fit : (n : ℕ) (values slice : List Fraction) → length values ≡ n → slice ≡ values → All (λ (f : Fraction). FitsWidth f) slice → AllFit n values
fit n values slice len e h s hs = (subst (λ (xs : List Fraction). All (λ (f : Fraction). FitsWidth f) xs) e h) s _ (omega arith)

pub returns-in-Values-clause-verdict : goal.returns-in-Values-clause-verdict
returns-in-Values-clause-verdict c =
    let costs = c.args.costs.now in
    let h = rw c.in-Values.is at c.in_ok-values.ensures in
    GivesValues-settled costs.n (cost_at costs) (cost_positive costs c.n-n.ensures.valid) c.in-Values.values
    (lowest costs.n c.in-Values.values c.as_slice.result.now h.one_each c.as_slice.ensures c.are_lowest.ensures.lowest)
    (fit costs.n c.in-Values.values c.as_slice.result.now h.one_each c.as_slice.ensures c.are_lowest.ensures.fit) h

pub returns-in-Values-clause-proves : goal.returns-in-Values-clause-proves
returns-in-Values-clause-proves c =
    let costs = c.args.costs.now in
    let h = rw c.in-Values.is at c.in_ok-values.ensures in
    let gives = returns-in-Values-clause-verdict c in (
      BoundProducts-least costs.n (cost_at costs) (cost_positive costs c.n-n.ensures.valid) c.in-Values.values h.one_each
          (lowest costs.n c.in-Values.values c.as_slice.result.now h.one_each c.as_slice.ensures c.are_lowest.ensures.lowest) (λ s hs. h.least s _ hs),
      gives.holds,
    )

pub returns-in-Cycle-clause-verdict : goal.returns-in-Cycle-clause-verdict
returns-in-Cycle-clause-verdict c =
    let costs = c.args.costs.now in
    let h = rw c.in-Cycle.is at c.in_ok-values.ensures in
    GivesCycle-settled costs.n (cost_at costs) (cost_positive costs c.n-n.ensures.valid) (λ t s t_in s_in. cost_below costs c.n-n.ensures.valid t s) c.in-Cycle.start c.in-Cycle.steps c.den.ensures.lowest c.den.ensures.fits h

pub returns-in-Cycle-clause-proves : goal.returns-in-Cycle-clause-proves
returns-in-Cycle-clause-proves c =
    let costs = c.args.costs.now in
    let h = rw c.in-Cycle.is at c.in_ok-values.ensures in
    IsFallingCycle-falls costs.n (cost_at costs) (cost_positive costs c.n-n.ensures.valid) c.in-Cycle.start c.in-Cycle.steps h.falls

pub returns-in-Wide-clause-verdict : goal.returns-in-Wide-clause-verdict
returns-in-Wide-clause-verdict c =
    let costs = c.args.costs.now in
    let h = rw c.in-Wide.is at c.in_ok-values.ensures in
    GivesWithheld-settled costs.n (cost_at costs) (cost_positive costs c.n-n.ensures.valid) c.in-Wide.steps c.in-Wide.from c.in-Wide.to h

pub returns-in-Values-clause-says : goal.returns-in-Values-clause-says
returns-in-Values-clause-says c = homothetic_of_each c.args.costs.now (Values c.in-Values.values) (returns-in-Values-clause-proves c)

pub returns-in-Cycle-clause-says : goal.returns-in-Cycle-clause-says
returns-in-Cycle-clause-says c = homothetic_of_each c.args.costs.now (Cycle c.in-Cycle.start c.in-Cycle.steps) (returns-in-Cycle-clause-proves c)

pub returns-in-Wide-clause-says : goal.returns-in-Wide-clause-says
returns-in-Wide-clause-says c = λ table valid is. tt
