use Rattle.std.proofs.Common.{◌≡◌, ◌*◌, ℕ, List, length, slice_index, ap, arith, sym, ◌∙◌}
use Rattle.std.proofs.lemmas.Bool.{false≢true}
use Rattle.rp_evidence.specs.Demand.{spending}
use Rattle.rp_evidence.specs.InnerBudget.{input_of, new_budget}
use Rattle.rp_check.proofs.DemandClauses.{inner_fails_at}
use Rattle.rp_check.proofs.demand.check_inner.Goals as goal

pub returns-then-not-costs_enough : goal.returns-then-not-costs_enough
returns-then-not-costs_enough c =
    let a = c.args in
    let same = ap (λ (xs : List ℕ). spending (input_of a.budget.now.at).goods (slice_index a.budget.now.at.prices.now) (slice_index xs)) c.as_slice-num.ensures in
    let product : c.from.result * c.from-2.result ≡ a.inner.now.den * a.budget.now.m = ap (λ (z : ℕ). z * c.from-2.result) c.from.ensures ∙ ap (λ (z : ℕ). a.inner.now.den * z) c.from-2.ensures in
    inner_fails_at (input_of a.budget.now.at) (new_budget a.budget.now) a.inner.now c.fails-then-not-costs_enough.result c.loop-t.t (omega arith)
    (omega (arith, c.if-num-goods.false, c.goods.ensures.count, ap (λ (xs : List ℕ). length xs) c.as_slice-num.ensures))
    (sym same ∙ (sym c.numerator_cost.ensures.exact ∙ (c.if-numerator_cost-from.false ∙ product))) (omega arith)
    c.loop-t.invariant (λ h. false≢true (sym c.if-not-costs_enough.true ∙ c.costs_enough.ensures.1 h)) c.fails-then-not-costs_enough.ensures
