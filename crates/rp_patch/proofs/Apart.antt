-- Two sums of the same amount: where a term is less, another is more.
use Rattle.std.proofs.Common.{◌≡◌, ℕ, zero, suc, ◌<◌, ◌≤◌, ◌==◌, ◌⊎◌, inl, inr, true, false, refl, ap, subst, arith, below_more, if◌then◌else◌}
use Rattle.std.proofs.lemmas.Bool.{cases_eq, eq-eqb, ltb-false, ltb-true, ne_eqb}
use Rattle.std.specs.Prelude.{nat_lt}
use Rattle.rp_table.specs.Sums.{sum_below}
use Rattle.rp_table.proofs.SumsBelow.{sum_below-mono}

-- no term is less and one is more, so the sum is more
pub sum_more : (f h : ℕ → ℕ) (n b : ℕ) → b < n → ((i : ℕ) → i < n → f i ≤ h i) → f b < h b → sum_below n f < sum_below n h
sum_more f h zero b within each more = absurd (omega arith)
sum_more f h (suc n) b within each more = elim (cases_eq b n) [
  | inl e ↦
      let here : f n < h n = subst (λ k. f k < h k) e more in
      omega (arith, sum_below-mono f h n (λ i l. each i (omega arith)), here)
  | inr d ↦ omega (arith, sum_more f h n b (omega (arith, d)) (λ i l. each i (omega arith)) more, each n (omega arith))
]

-- some term below n is more, or none is
pub some_or_none : (f h : ℕ → ℕ) (n : ℕ) → ((k : ℕ) × (k < n) × (f k < h k)) ⊎ ((i : ℕ) → i < n → h i ≤ f i)
some_or_none f h zero = inr (λ i l. absurd (omega arith))
some_or_none f h (suc n) = by (some_or_none f h n) (nat_lt (f n) (h n)) refl
  where
    by : ((k : ℕ) × (k < n) × (f k < h k)) ⊎ ((i : ℕ) → i < n → h i ≤ f i) → (t : _) → nat_lt (f n) (h n) ≡ t
        → ((k : ℕ) × (k < suc n) × (f k < h k)) ⊎ ((i : ℕ) → i < suc n → h i ≤ f i)
    by (inl (k, l, more)) t is = inl (k, omega (arith, l), more)
    by (inr none) true is = inl (n, omega arith, ltb-true (f n) (h n) is)
    by (inr none) false is =
        inr (λ i l. below_more (λ k. h k ≤ f k) n none (ltb-false (f n) (h n) is) i (omega (arith, l)))

-- where term b is less, another is more
pub other_more : (f h : ℕ → ℕ) (n b : ℕ) → sum_below n f ≡ sum_below n h → b < n → h b < f b → (k : ℕ) × (k < n) × (f k < h k)
other_more f h n b same within less = elim (some_or_none f h n) [
  | inl found ↦ found
  | inr none ↦ absurd (omega (arith, sum_more h f n b within none less, same))
]

-- the terms that count for j
pub counts_same : (b j u : ℕ) → b ≡ j → (if b == j then u else 0) ≡ u
counts_same b j u e = ap (λ t. if t then u else 0) (eq-eqb b j e)

pub counts_less : (b j u v : ℕ) → (if b == j then u else 0) < (if b == j then v else 0) → (b ≡ j) × (u < v)
counts_less b j u v less = elim (cases_eq b j) [
  | inl e ↦ (e, omega (arith, less, counts_same b j u e, counts_same b j v e))
  | inr d ↦
      let none : (x : ℕ) → (if b == j then x else 0) ≡ 0 = λ x. ap (λ t. if t then x else 0) (ne_eqb b j d) in
      absurd (omega (arith, less, none u, none v))
]
