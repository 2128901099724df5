use Rattle.std.proofs.Common.{IfOk, sym, subst, arith}
use Rattle.rp_simplex.specs.ProgramBound.{IsBoundOf}
use Rattle.rp_farkas.specs.Prices.{HasFeasiblePrices}
use Rattle.rp_farkas.specs.LinearProgram.{LinearProgram}
use Rattle.rp_evidence.specs.Demand.{IsBelow}
use Rattle.rp_evidence.specs.DemandEvidence.{budget_of}
use Rattle.rp_evidence.specs.Input.{input_of_table}
use Rattle.rp_table.specs.Tables.{records_of}
use Rattle.rp_support.proofs.SupportPrices.{support_prices}
use Rattle.rp_evidence.proofs.Enumerations.{enumerates_few}
use Rattle.rp_support.proofs.BelowLists.{below_observed}
use Rattle.rp_support.proofs.goods.lower_bound.Goals as goal

pub least-requires-clause-observed : goal.least-requires-clause-observed
least-requires-clause-observed c =
    let b = c.args.budget.now in
    below_observed (input_of_table b.at.table.now) (budget_of b.at.prices.now b.m) c.args.below.now c.requires.below

pub least-requires-clause-few : goal.least-requires-clause-few
least-requires-clause-few c =
    let b = c.args.budget.now in
    let few = enumerates_few (records_of b.at.table.now) (IsBelow (input_of_table b.at.table.now) (budget_of b.at.prices.now b.m)) c.args.below.now c.requires.below in
    omega (arith, few, c.n.ensures.count, c.n.ensures.few)

pub bound_of-requires-clause-prices : goal.bound_of-requires-clause-prices
bound_of-requires-clause-prices c =
    let b = c.args.budget.now in
    subst (λ (p : LinearProgram). HasFeasiblePrices p) (sym c.least.ensures)
    (support_prices (input_of_table b.at.table.now) (budget_of b.at.prices.now b.m) c.args.below.now c.requires.below _ c.requires.support)

pub returns : goal.returns
returns c = subst (λ (p : LinearProgram). IfOk c.bound_of.result (λ bound. IsBoundOf p (λ x. x c.args.g) bound)) c.least.ensures c.bound_of.ensures.bound
