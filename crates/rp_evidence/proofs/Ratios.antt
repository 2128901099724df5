-- The greatest ratio on a closed walk, and what follows from it at a level.
use Rattle.std.proofs.Common.{◌≡◌, ◌<◌, ◌≤◌, ◌*◌, inl, inr, ℕ, List, [], ◌∷◌, refl, ap, arith}
use Rattle.std.proofs.Math.Nat.{le_of_mul-le-mul_left, lt_of_mul-lt-mul_left, mul-le-mul_left, mul-lt-mul_of_pos_left, eq_of_mul-eq-mul_right}
use Rattle.std.proofs.lemmas.Bool.{cases_lt}
use Rattle.rp_evidence.specs.Efficiency.{HasGreatestRatio, IsRatio}
use Rattle.rp_evidence.specs.Preference.{IsWeakAt}
use Rattle.rp_evidence.specs.Walk.{LeadsTo, IsClosedWalk, HasStep, HasStepFrom}
use Rattle.rp_evidence.proofs.Levels.{weak_rises}
use Rattle.rp_evidence.proofs.Walks.{leads_by_weaker, starts_below}

-- at most, then less
pub ratio_then_less : (a b x y p q : ℕ) → 0 < b → a * y ≤ x * b → x * q < p * y → a * q < p * b
ratio_then_less a b x y p q pos l m =
    let k : q * (a * y) ≤ q * (x * b) = mul-le-mul_left q l in
    let j : b * (x * q) < b * (p * y) = mul-lt-mul_of_pos_left m pos in
    lt_of_mul-lt-mul_left y (omega arith)

-- a ratio that is one number with another
pub ratio_same : (c : ℕ → ℕ → ℕ) (a b num den s t : ℕ) → 0 < b → a * den ≡ num * b → IsRatio c a b s t → IsRatio c num den s t
ratio_same c a b num den s t pos same e =
    let k : den * (b * c s t) ≡ den * (a * c s s) = ap (λ x. den * x) e in
    let j : c s s * (a * den) ≡ c s s * (num * b) = ap (λ x. c s s * x) same in
    eq_of_mul-eq-mul_right b pos (den * c s t) (num * c s s) (omega arith)

module _ (n : ℕ) (c : ℕ → ℕ → ℕ) (positive : (s : ℕ) → s < n → 0 < c s s) where
  -- a step whose ratio is the greatest
  greatest_from : (step : ℕ → ℕ → Type 0) (s t x : ℕ) (w : List ℕ) → LeadsTo n step s t (x ∷ w) → (u : ℕ) × (v : ℕ) × (u < n) × (v < n) × LeadsTo n (IsWeakAt c (c u v) (c u u)) s t (x ∷ w) × HasStepFrom (IsRatio c (c u v) (c u u)) s (x ∷ w)
  greatest_from step s t x [] h = (s, x, h.0, h.2.0, (h.0, omega arith, h.2), inl (omega arith))
  greatest_from step s t x (y ∷ w) h = go (greatest_from step x t y w h.2)
    where
      go : (u : ℕ) × (v : ℕ) × (u < n) × (v < n) × LeadsTo n (IsWeakAt c (c u v) (c u u)) x t (y ∷ w) × HasStepFrom (IsRatio c (c u v) (c u u)) x (y ∷ w)
          → (u : ℕ) × (v : ℕ) × (u < n) × (v < n) × LeadsTo n (IsWeakAt c (c u v) (c u u)) s t (x ∷ y ∷ w) × HasStepFrom (IsRatio c (c u v) (c u u)) s (x ∷ y ∷ w)
      go r = elim (cases_lt (c r.0 r.1 * c s s) (c s x * c r.0 r.0)) [
        | inl more ↦ (
          s,
          x,
          h.0,
          starts_below n step x t (y ∷ w) h.2,
          (
            h.0,
            omega arith,
            leads_by_weaker n (IsWeakAt c (c r.0 r.1) (c r.0 r.0)) (IsWeakAt c (c s x) (c s s))
                (λ a b a_in b_in k. weak_rises (c r.0 r.1) (c r.0 r.0) (c s x) (c s s) (c a b) (c a a) (positive r.0 r.2) (omega arith) k) x t (y ∷ w) r.4,
          ),
          inl (omega arith),
        )
        | inr most ↦ (r.0, r.1, r.2, r.3, (h.0, omega arith, r.4), inr r.5)
      ]

  -- every closed walk has a greatest ratio, which is that of two observations
  pub greatest_ratio : (step : ℕ → ℕ → Type 0) (walk : List ℕ) → IsClosedWalk n step walk → (u : ℕ) × (v : ℕ) × (u < n) × (v < n) × HasGreatestRatio n c (c u v) (c u u) walk
  greatest_ratio step [] h = absurd h.1
  greatest_ratio step (x ∷ []) h = absurd (omega (arith, h.2))
  greatest_ratio step (x ∷ y ∷ w) h =
      let r = greatest_from step x h.0 y w h.1.1 in
      (r.0, r.1, r.2, r.3, record { none_more = (h.0, (h.1.0, r.4), h.2); one_equal = r.5 })

  -- on a walk of weak steps no ratio is above the level
  within_from : (num den p q s t : ℕ) (w : List ℕ) → LeadsTo n (IsWeakAt c p q) s t w → HasStepFrom (IsRatio c num den) s w → num * q ≤ p * den
  within_from num den p q s t [] l h = absurd h
  within_from num den p q s t (x ∷ w) l (inl e) =
      let k : den * (q * c s x) ≤ den * (p * c s s) = mul-le-mul_left den l.1 in
      let j : q * (den * c s x) ≡ q * (num * c s s) = rw e refl in
      le_of_mul-le-mul_left {k = c s s} (omega arith) (positive s l.0)
  within_from num den p q s t (x ∷ w) l (inr h) = within_from num den p q x t w l.2 h

  pub greatest_within : (num den p q : ℕ) (walk : List ℕ) → IsClosedWalk n (IsWeakAt c p q) walk → HasStep (IsRatio c num den) walk → num * q ≤ p * den
  greatest_within num den p q [] l h = absurd h
  greatest_within num den p q (x ∷ w) l h = within_from num den p q x l.0 w l.1.1 h
