-- What a step from one observation to another finds, by the values of both.
use Rattle.std.proofs.Common.{◌≡◌, ℕ, ◌+◌, ◌*◌, ◌<◌, ◌≤◌, List, Result, Ok, Err, arith, inl, inr, refl}
use Rattle.std.proofs.Math.Nat.{one-le-mul}
use Rattle.rp_num.specs.Fraction.{Fraction, IsLowestTerms, PassesWidth}
use Rattle.rp_num.proofs.Products.{below_cross}
use Rattle.rp_evidence.specs.Homothetic.{value_at}
use Rattle.rp_evidence.specs.declared.failure.Failure.{Failure}
use Rattle.rp_evidence.specs.declared.failure.Reason.TheVariants.{Order, Wide}
use Rattle.rp_evidence.specs.Clauses.{failure}
use Rattle.rp_clauses.specs.HomotheticFailure.{StepFails}

not_lt : {a b : ℕ} → ¬ (a < b) → b ≤ a
not_lt h = omega (arith, h)

-- what a step from t to s finds: v and w are the values of t and s
module _ (c : ℕ → ℕ → ℕ) (values : List Fraction) (t s : ℕ) (v : Fraction) (is_v : v ≡ value_at values t) where
  pub step_wide : (r : Result (Unit {0}) Failure) → PassesWidth (v.num * c t s) (v.den * c t t) → r ≡ Err (failure Wide (t + 1)) → StepFails c values t s r
  step_wide r wide is = rw (is, ← is_v) (inl ((λ fits. fits wide), refl))

  module _ (w : Fraction) (is_w : w ≡ value_at values s) (p : Fraction) (some : 1 ≤ v.den) (own : 1 ≤ c t t) (lowest : IsLowestTerms (v.num * c t s) (v.den * c t t) p) (fits : ¬ PassesWidth (v.num * c t s) (v.den * c t t)) where
    pub step_below : (r : Result (Unit {0}) Failure) → p.num * w.den < w.num * p.den → r ≡ Err (failure Order (t + 1)) → StepFails c values t s r
    step_below r less is =
        let l = (below_cross p w (v.num * c t s) (v.den * c t t) (one-le-mul some own) lowest).0 less in
        rw (is, ← is_v, ← is_w) (inr (fits, inl ((λ le. absurd (omega (arith, l, le))), refl)))

    pub step_holds : ¬ (p.num * w.den < w.num * p.den) → StepFails c values t s (Ok tt)
    step_holds not_less =
        rw (← is_v, ← is_w) (
          fits,
          (not_lt (λ l. not_less ((below_cross p w (v.num * c t s) (v.den * c t t) (one-le-mul some own) lowest).1 l)), tt),
        )
