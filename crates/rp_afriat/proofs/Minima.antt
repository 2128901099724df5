-- The utility of a bundle, one observation after another.
use Rattle.std.proofs.Common.{◌≡◌, ◌+◌, inl, inr, ℕ, sym, subst, ◌∙◌, arith}
use Rattle.std.proofs.lemmas.Bool.{cases_eq}
use Rattle.std.proofs.lemmas.Int.{ints}
use Rattle.std.specs.Int.{int_min}
use Rattle.std.specs.Prelude.{ℤ, ◌≤ℤ◌}
use Rattle.rp_evidence.specs.Afriat.{IsUtilityBy, allowed_for_by}
use Rattle.rp_afriat.proofs.Leasts.{at_most_left, at_most_right, one_of}

module _ (own : ℕ → ℕ) (u : ℕ → ℤ) (m : ℕ → ℕ) (cost : ℕ → ℕ) where
  pub one_more_bound : (s : ℕ) (x y : ℤ) → IsUtilityBy s own u m 1 cost x → y ≡ allowed_for_by own u m 1 cost s → IsUtilityBy (s + 1) own u m 1 cost (int_min x y)
  one_more_bound s x y is e = record {
    reached = elim (one_of x y) [
      | inl k ↦ (is.reached.0, omega (arith, is.reached.1), k ∙ is.reached.2)
      | inr k ↦ (s, omega arith, k ∙ e)
    ];
    least = λ t l. elim (cases_eq t s) [
      | inl k ↦ subst (λ z. int_min x y ≤ℤ allowed_for_by own u m 1 cost z) (sym k) (subst (λ z. int_min x y ≤ℤ z) e (at_most_right x y))
      | inr d ↦ through (int_min x y) x (allowed_for_by own u m 1 cost t) (at_most_left x y) (is.least t (omega arith))
    ];
  }
    where
      through : (x y z : ℤ) → x ≤ℤ y → y ≤ℤ z → x ≤ℤ z
      through x y z a b = omega (arith, ints)
