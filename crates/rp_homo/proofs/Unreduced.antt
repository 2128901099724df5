-- Products that fit as they stand, before they are brought to lowest terms.
use Rattle.std.proofs.Common.{◌*◌, ◌/◌, ap, ◌≡◌, ℕ, ◌≤◌, sym, subst, ◌∙◌}
use Rattle.std.proofs.Math.Nat.{one-le-mul}
use Rattle.std.specs.Prelude.{pos}
use Rattle.rp_num.specs.Fraction.{Fraction, FitsTerm, IsLowestTerms}
use Rattle.rp_num.proofs.Coprime.{IsGcd-exists}
use Rattle.rp_num.proofs.Lowest.{FitsWidth-divided, IsLowestTerms-divided, IsLowestTerms-itself}
use Rattle.rp_walk.specs.ExactTotal.{SameTotal}
use Rattle.rp_walk.specs.Products.{FitsFraction, as_total, times}
use Rattle.rp_homo.proofs.Steps.{at_least_one-is}

-- a product with both parts within the width before it is reduced fits
pub fits_unreduced : (v : Fraction) (a b p q : ℕ) → 1 ≤ v.den → 1 ≤ a → 1 ≤ b → p ≡ v.num * a → q ≡ v.den * b → FitsTerm p → FitsTerm q → FitsFraction (times (as_total v) a b)
fits_unreduced v a b p q hv ha hb ep eq fits_p fits_q =
    let g = IsGcd-exists p q in
    let some : 1 ≤ q = subst (λ n. 1 ≤ n) (sym eq) (one-le-mul hv hb) in
    let lowest = IsLowestTerms-divided p q g.0 some g.1 in
    let f : Fraction = record { num = p / g.0; den = q / g.0 } in
    (f, IsLowestTerms-itself p q f lowest, FitsWidth-divided p q g.0 fits_p fits_q, sym (same f lowest))
  where
    same : (f : Fraction) → IsLowestTerms p q f → SameTotal (as_total f) (times (as_total v) a b)
    same f lowest =
        let ev = at_least_one-is v.den hv in
        let ea = at_least_one-is a ha in
        let eb = at_least_one-is b hb in
        let ef = at_least_one-is f.den lowest.positive in
        let e : f.num * (v.den * b) ≡ v.num * a * f.den = ap (λ n. f.num * n) (sym eq) ∙ lowest.same_number ∙ ap (λ n. n * f.den) ep in
        (λ i. pos (f.num * (ev i * eb i))) ∙ ap pos e ∙ sym (λ i. pos ((v.num * ea i) * ef i))
