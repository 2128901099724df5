-- The exact total after a step is the product in lowest terms, and fits just where that is within the width.
use Rattle.std.proofs.Common.{◌*◌, ap, ◌≡◌, ℕ, ◌≤◌, ◌↔◌, arith, sym, ◌∙◌}
use Rattle.std.proofs.Math.Nat.{one-le-mul}
use Rattle.std.specs.Prelude.{pos}
use Rattle.rp_num.specs.Fraction.{Fraction, IsLowestTerms, PassesWidth}
use Rattle.rp_num.proofs.Lowest.{IsLowestTerms-exists, IsLowestTerms-itself, not_PassesWidth}
use Rattle.rp_walk.specs.ExactTotal.{SameTotal}
use Rattle.rp_walk.proofs.Numbers.{same_pos}
use Rattle.rp_walk.specs.Products.{FitsFraction, as_total, at_least_one, times}

pub at_least_one-is : (k : ℕ) → 1 ≤ k → at_least_one k ≡ k
at_least_one-is k h = omega arith

module _ (v : Fraction) (a b : ℕ) (some : 1 ≤ v.den) (across : 1 ≤ a) (own : 1 ≤ b) where
  -- the exact total of the product is that after the step
  pub same_product : (p : Fraction) → IsLowestTerms (v.num * a) (v.den * b) p → SameTotal (as_total p) (times (as_total v) a b)
  same_product p lowest =
      let ev = at_least_one-is v.den some in
      let ea = at_least_one-is a across in
      let eb = at_least_one-is b own in
      let ep = at_least_one-is p.den lowest.positive in
      (λ i. pos (p.num * (ev i * eb i))) ∙ ap pos lowest.same_number ∙ sym (λ i. pos ((v.num * ea i) * ep i))

  -- what stands for the total after the step is the product
  product_same : (f : Fraction) → IsLowestTerms f.num f.den f → SameTotal (times (as_total v) a b) (as_total f) → IsLowestTerms (v.num * a) (v.den * b) f
  product_same f terms h =
      let ev = at_least_one-is v.den some in
      let ea = at_least_one-is a across in
      let eb = at_least_one-is b own in
      let ef = at_least_one-is f.den terms.positive in
      let e : pos ((v.num * a) * f.den) ≡ pos (f.num * (v.den * b)) =
      sym (λ i. pos ((v.num * ea i) * ef i)) ∙ h ∙ (λ i. pos (f.num * (ev i * eb i))) in
      record {
        positive = terms.positive;
        coprime = terms.coprime;
        same_number = sym (same_pos ((v.num * a) * f.den) (f.num * (v.den * b)) e);
      }

  -- the product passes the width exactly where no fraction within it stands for the total after the step
  pub wide_product : PassesWidth (v.num * a) (v.den * b) ↔ (¬ (FitsFraction (times (as_total v) a b)))
  wide_product = (
    λ wide fits. not_PassesWidth (v.num * a) (v.den * b) fits.0 (one-le-mul some own) (product_same fits.0 fits.1 fits.3) fits.2 wide,
    λ not_fit.
        let g = IsLowestTerms-exists (v.num * a) (v.den * b) (one-le-mul some own) in
        (g.0, g.1, λ fits. not_fit (g.0, IsLowestTerms-itself (v.num * a) (v.den * b) g.0 g.1, fits, sym (same_product g.0 g.1))),
  )
