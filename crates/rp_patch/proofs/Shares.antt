-- Sums that are scaled, and divided.
use Rattle.std.proofs.Common.{◌≡◌, ℕ, zero, suc, ◌+◌, ◌*◌, ◌<◌, ◌≤◌, ◌⊎◌, inl, inr, Bool, true, false, refl, arith, if◌then◌else◌}
use Rattle.rp_table.specs.Sums.{sum_below}

-- scaled sums: no term passes, so no sum does
pub sum_scaled_at_most : (on : ℕ → Bool) (w t : ℕ → ℕ) (a b n : ℕ) → ((i : ℕ) → i < n → on i ≡ true → w i * a ≤ t i * b)
    → sum_below n (λ i. if on i then w i else 0) * a ≤ sum_below n (λ i. if on i then t i else 0) * b
sum_scaled_at_most on w t a b zero each = omega arith
sum_scaled_at_most on w t a b (suc n) each = by (on n) (each n (omega arith)) (sum_scaled_at_most on w t a b n (λ i l. each i (omega arith)))
  where
    by : (o : Bool) → (o ≡ true → w n * a ≤ t n * b) → sum_below n (λ i. if on i then w i else 0) * a ≤ sum_below n (λ i. if on i then t i else 0) * b
        → (sum_below n (λ i. if on i then w i else 0) + (if o then w n else 0)) * a ≤ (sum_below n (λ i. if on i then t i else 0) + (if o then t n else 0)) * b
    by true here rest = omega (arith, here refl, rest)
    by false here rest = omega (arith, rest)

-- a sum of sums
pub sum_plus : (on : ℕ → Bool) (f g : ℕ → ℕ) (n : ℕ) → sum_below n (λ i. if on i then f i + g i else 0)
    ≡ sum_below n (λ i. if on i then f i else 0) + sum_below n (λ i. if on i then g i else 0)
sum_plus on f g zero = refl
sum_plus on f g (suc n) = by (on n) (sum_plus on f g n)
  where
    by : (o : Bool) → sum_below n (λ i. if on i then f i + g i else 0) ≡ sum_below n (λ i. if on i then f i else 0) + sum_below n (λ i. if on i then g i else 0)
        → sum_below n (λ i. if on i then f i + g i else 0) + (if o then f n + g n else 0)
        ≡ (sum_below n (λ i. if on i then f i else 0) + (if o then f n else 0)) + (sum_below n (λ i. if on i then g i else 0) + (if o then g n else 0))
    by true rest = omega (arith, rest)
    by false rest = omega (arith, rest)

-- divided by a positive number
pub cancelled : (x y t : ℕ) → x * t ≤ y * t → 0 < t → x ≤ y
cancelled x y t le positive = elim (cases_le x y) [
  | inl l ↦ l
  | inr g ↦
      let more : (y + 1) * t ≤ x * t = scaled (y + 1) x t g in
      absurd (omega (arith, more, le, positive))
]
  where
    cases_le : (x y : ℕ) → (x ≤ y) ⊎ (y + 1 ≤ x)
    cases_le zero y = inl (omega arith)
    cases_le (suc x) zero = inr (omega arith)
    cases_le (suc x) (suc y) = elim (cases_le x y) [ inl l ↦ inl (omega (arith, l)) | inr g ↦ inr (omega (arith, g)) ]

    scaled : (a b t : ℕ) → a ≤ b → a * t ≤ b * t
    scaled a b zero le = omega arith
    scaled a b (suc t) le = omega (arith, scaled a b t le, le)
