use Rattle.std.proofs.Common.{◌*◌, ◌∙◌, ◌≤◌, arith, refl, subst}
use Rattle.std.proofs.Math.Nat.{one-le-mul}
use Rattle.rp_num.specs.Fraction.{Fraction}
use Rattle.rp_num.proofs.Lowest.{IsLowestTerms-cancelled, IsLowestTerms-itself, PassesWidth-num, PassesWidth-den, not_PassesWidth}
use Rattle.rp_num.proofs.frac.Frac.mul.Goals as goal

pub returns-in_err-num-clause-wide : goal.returns-in_err-num-clause-wide
returns-in_err-num-clause-wide c =
    let p = IsLowestTerms-cancelled _ _ _ _ _ _ _ _ _ _ c.self.view_is c.other.view_is c.self.invariant.0 c.other.invariant.0 c.gcd-down.ensures.greatest c.gcd-up.ensures.greatest (λ i. c.quotient.ensures i * c.quotient-2.ensures i) refl in
    (λ _. PassesWidth-num _ _ _ _ p (omega (arith, c.in_err-num.ensures.wide)), λ _. c.from_residual.ensures.0)

pub returns-in_err-den-clause-wide : goal.returns-in_err-den-clause-wide
returns-in_err-den-clause-wide c =
    let p = IsLowestTerms-cancelled _ _ _ _ _ _ _ _ _ _ c.self.view_is c.other.view_is c.self.invariant.0 c.other.invariant.0 c.gcd-down.ensures.greatest c.gcd-up.ensures.greatest (c.in_ok-num.ensures.value ∙ (λ i. c.quotient.ensures i * c.quotient-2.ensures i)) (λ i. c.quotient-3.ensures i * c.quotient-4.ensures i) in
    (λ _. PassesWidth-den _ _ _ _ p (omega (arith, c.in_err-den.ensures.wide)), λ _. c.from_residual-in_err-den.ensures.0)

pub invariant_of-result : goal.invariant_of-result
invariant_of-result c =
    let p = IsLowestTerms-cancelled _ _ _ _ _ _ _ _ _ _ c.self.view_is c.other.view_is c.self.invariant.0 c.other.invariant.0 c.gcd-down.ensures.greatest c.gcd-up.ensures.greatest (c.in_ok-num.ensures.value ∙ (λ i. c.quotient.ensures i * c.quotient-2.ensures i)) (c.in_ok-den.ensures.value ∙ (λ i. c.quotient-3.ensures i * c.quotient-4.ensures i)) in
    (IsLowestTerms-itself _ _ _ p, record { num_fits = c.in_ok-num.ensures.fits; den_fits = c.in_ok-den.ensures.fits })

pub returns-clause-product : goal.returns-clause-product
returns-clause-product c =
    IsLowestTerms-cancelled _ _ _ _ _ _ _ _ _ _ c.self.view_is c.other.view_is c.self.invariant.0 c.other.invariant.0 c.gcd-down.ensures.greatest c.gcd-up.ensures.greatest (c.in_ok-num.ensures.value ∙ (λ i. c.quotient.ensures i * c.quotient-2.ensures i)) (c.in_ok-den.ensures.value ∙ (λ i. c.quotient-3.ensures i * c.quotient-4.ensures i))

pub returns-clause-wide : goal.returns-clause-wide
returns-clause-wide c =
    let p = IsLowestTerms-cancelled _ _ _ _ _ _ _ _ _ _ c.self.view_is c.other.view_is c.self.invariant.0 c.other.invariant.0 c.gcd-down.ensures.greatest c.gcd-up.ensures.greatest (c.in_ok-num.ensures.value ∙ (λ i. c.quotient.ensures i * c.quotient-2.ensures i)) (c.in_ok-den.ensures.value ∙ (λ i. c.quotient-3.ensures i * c.quotient-4.ensures i)) in
    let left = subst (λ (k : Fraction). 1 ≤ k.den) c.self.view_is c.self.invariant.0.positive in
    let right = subst (λ (k : Fraction). 1 ≤ k.den) c.other.view_is c.other.invariant.0.positive in
    (λ e. cc, λ w. absurd (not_PassesWidth _ _ _ (one-le-mul left right) p (record { num_fits = c.in_ok-num.ensures.fits; den_fits = c.in_ok-den.ensures.fits }) w))
