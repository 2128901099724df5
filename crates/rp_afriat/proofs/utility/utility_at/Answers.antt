use mir.Syntax.{w128}
use mir.Val.{of_z, to_z}
use Rattle.std.proofs.Common.{rules, ◌≡◌, ◌+◌, ◌*◌, ℕ, List, sym, subst, ◌∙◌, arith}
use Rattle.std.proofs.lemmas.Int.{to_z-of_z}
use Rattle.std.specs.Prelude.{FitsSigned}
use Rattle.rp_evidence.specs.Afriat.{IsOwnUtility, IsUtilityBy}
use Rattle.rp_evidence.specs.AfriatEvidence.{multiplier_in, utility_in}
use Rattle.rp_evidence.proofs.OwnAfriat.{utility_without_levels}
use Rattle.rp_table.specs.Cost.{cost_at, own_of, scale_of}
use Rattle.rp_afriat.specs.Bundle.{bundle_cost}
use Rattle.rp_afriat.proofs.Minima.{one_more_bound}
use Rattle.rp_afriat.proofs.utility.utility_at.Goals as goal

pub loop-s-preserved : goal.loop-s-preserved
loop-s-preserved c =
    let a = c.args in
    let l = c.loop-s in
    let x = c.bound_at.result in
    let bound_fits : FitsSigned w128 x = search rules in
    let least_fits : FitsSigned w128 c.min-least.result = search rules in
    subst (λ z. IsUtilityBy (l.s + 1) (own_of a.costs.now) (utility_in a.numbers.now) (multiplier_in a.numbers.now) 1 (λ i. scale_of a.costs.now * bundle_cost a.table.now a.bundle.now i) z)
    (sym (to_z-of_z w128 c.min-least.result least_fits ∙ c.min-least.ensures.value))
    (one_more_bound (own_of a.costs.now) (utility_in a.numbers.now) (multiplier_in a.numbers.now) (λ i. scale_of a.costs.now * bundle_cost a.table.now a.bundle.now i) l.s (to_z w128 l.least-bits) (to_z w128 (of_z w128 x))
    l.invariant (to_z-of_z w128 x bound_fits ∙ c.bound_at.ensures))

pub returns-clause-own : goal.returns-clause-own
returns-clause-own c =
    let a = c.args in
    let l = c.loop-s in
    let end : l.s ≡ a.costs.now.n = omega (arith, c.loop-s-test.false, l.auto.s-end, c.n-n.ensures.count, c.n-n.ensures.valid.some) in
    subst (λ n. IsUtilityBy n (own_of a.costs.now) (utility_in a.numbers.now) (multiplier_in a.numbers.now) 1 (λ i. scale_of a.costs.now * bundle_cost a.table.now a.bundle.now i) (to_z w128 l.least-bits)) end l.invariant

pub returns-clause-without_levels : goal.returns-clause-without_levels
returns-clause-without_levels c = λ none.
    let a = c.args in
    let l = c.loop-s in
    let u = utility_in a.numbers.now in
    let m = multiplier_in a.numbers.now in
    let end : l.s ≡ a.costs.now.n = omega (arith, c.loop-s-test.false, l.auto.s-end, c.n-n.ensures.count, c.n-n.ensures.valid.some) in
    let own : IsOwnUtility a.costs.now.n a.costs.now.levels (cost_at a.costs.now) u m 1 (bundle_cost a.table.now a.bundle.now) (to_z w128 l.least-bits) =
    subst (λ n. IsUtilityBy n (own_of a.costs.now) u m 1 (λ i. scale_of a.costs.now * bundle_cost a.table.now a.bundle.now i) (to_z w128 l.least-bits)) end l.invariant in
    (utility_without_levels a.costs.now.n 1 (cost_at a.costs.now) u m (bundle_cost a.table.now a.bundle.now) (to_z w128 l.least-bits)).0
    (subst (λ (levels : List ℕ). IsOwnUtility a.costs.now.n levels (cost_at a.costs.now) u m 1 (bundle_cost a.table.now a.bundle.now) (to_z w128 l.least-bits)) none own)
