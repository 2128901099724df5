-- Levels of the observations' own, tried at two observations that contradict each other: one of them at four fifths.
use Rattle.std.proofs.Common.{◌≡◌, ◌<◌, ◌≤◌, ◌+◌, ◌*◌, ◌-◌, ◌^◌, ◌⊎◌, inl, inr, ℕ, zero, suc, List, [], ◌∷◌, refl, arith, slice_index, slice_index_or}
use Rattle.std.proofs.Math.Nat.{mul-le-mul_left, pow-succ', pow-zero}
use Rattle.std.proofs.lemmas.Bool.{cases_lt}
use Rattle.rp_evidence.specs.Garp.{IsViolation}
use Rattle.rp_evidence.specs.Preference.{IsStrictAt, IsWeakAt}
use Rattle.rp_evidence.proofs.Violations.{no_violation_under_ranks}
use Rattle.rp_fit.specs.Levels.{AreLevels, IndexIsAtLeast, IndexIsAtMost, IsLevelsIndex, LackAtLeast, LackAtMost, MeetsGarpAtLevels}

abbrev costs : List (List ℕ) → ℕ → ℕ → ℕ
costs rows s t = slice_index (slice_index_or rows s []) t

abbrev contradiction : ℕ → ℕ → ℕ
contradiction = costs ((5 ∷ 4 ∷ []) ∷ (4 ∷ 5 ∷ []) ∷ [])

abbrev at : ℕ → ℕ → ℕ → ℕ
at a b s = slice_index (a ∷ b ∷ []) s

-- ---- at the levels 4/5 and 1 there is still a violation, and at 3/5 and 1 there is none

four_fifths_violate : IsViolation 2 (λ s t. IsWeakAt contradiction (at 4 1 s) (at 5 1 s) s t) (λ s t. IsStrictAt contradiction (at 4 1 s) (at 5 1 s) s t) (1 ∷ 0 ∷ 1 ∷ [])
four_fifths_violate =
    ((1, (refl, (omega arith, omega arith, (omega arith, omega arith, (omega arith, refl)))), omega arith), inl (omega arith))

-- both at 4/5: neither step is strict
both_at_four_fifths : MeetsGarpAtLevels 2 contradiction (at 4 4) (at 5 5)
both_at_four_fifths = no_violation_under_ranks 2 (λ s t. IsWeakAt contradiction (at 4 4 s) (at 5 5 s) s t) (λ s t. IsStrictAt contradiction (at 4 4 s) (at 5 5 s) s t) (1 ∷ 1 ∷ []) (record {
  one_each = refl;
  weak_never_rises = λ s t a b h. weak s t a b;
  strict_falls = λ s t a b h. strict s t a b h;
})
  where
    weak : (s t : ℕ) → s < 2 → t < 2 → slice_index (1 ∷ 1 ∷ []) t ≤ slice_index (1 ∷ 1 ∷ []) s
    weak zero zero a b = omega arith
    weak zero (suc zero) a b = omega arith
    weak (suc zero) zero a b = omega arith
    weak (suc zero) (suc zero) a b = omega arith
    weak zero (suc (suc t)) a b = absurd (omega arith)
    weak (suc zero) (suc (suc t)) a b = absurd (omega arith)
    weak (suc (suc s)) t a b = absurd (omega arith)

    strict : (s t : ℕ) → s < 2 → t < 2 → IsStrictAt contradiction (at 4 4 s) (at 5 5 s) s t → slice_index (1 ∷ 1 ∷ []) t < slice_index (1 ∷ 1 ∷ []) s
    strict zero zero a b h = absurd (omega (arith, h))
    strict zero (suc zero) a b h = absurd (omega (arith, h))
    strict (suc zero) zero a b h = absurd (omega (arith, h))
    strict (suc zero) (suc zero) a b h = absurd (omega (arith, h))
    strict zero (suc (suc t)) a b h = absurd (omega arith)
    strict (suc zero) (suc (suc t)) a b h = absurd (omega arith)
    strict (suc (suc s)) t a b h = absurd (omega arith)

-- ---- what these levels lack: 1/5 and nothing, in the mean 1/10, of the squares 1/50

one_tenth_at_least : LackAtLeast 1 2 (at 4 1) (at 5 1) 1 10
one_tenth_at_least = omega arith

one_tenth_at_most : LackAtMost 1 2 (at 4 1) (at 5 1) 1 10
one_tenth_at_most = omega arith

one_fiftieth_at_least : LackAtLeast 2 2 (at 4 1) (at 5 1) 1 50
one_fiftieth_at_least = omega arith

one_fiftieth_at_most : LackAtMost 2 2 (at 4 1) (at 5 1) 1 50
one_fiftieth_at_most = omega arith

-- ---- the index: where the axiom holds one of the two is at 4/5 or below

pow_one : (k : ℕ) → k ^ 1 ≡ k
pow_one k = let e : k ^ 1 ≡ k * k ^ 0 = pow-succ' k 0 in let z : k ^ 0 ≡ 1 = pow-zero k in rw e (rw z (omega arith))

-- a fraction of at most 4/5 lacks at least 1/5
low_lacks : (num den other : ℕ) → num * 5 ≤ 4 * den → other * den ≤ other * ((den - num) * 5)
low_lacks num den other l = mul-le-mul_left other (omega arith)

one_is_low : (num den : ℕ → ℕ) → MeetsGarpAtLevels 2 contradiction num den → (num 0 * 5 ≤ 4 * den 0) ⊎ (num 1 * 5 ≤ 4 * den 1)
one_is_low num den meets = go (cases_lt (4 * den 0) (num 0 * 5)) (cases_lt (4 * den 1) (num 1 * 5))
  where
    go : (4 * den 0 < num 0 * 5) ⊎ (num 0 * 5 ≤ 4 * den 0) → (4 * den 1 < num 1 * 5) ⊎ (num 1 * 5 ≤ 4 * den 1) → (num 0 * 5 ≤ 4 * den 0) ⊎ (num 1 * 5 ≤ 4 * den 1)
    go (inr a) b = inl a
    go (inl a) (inr b) = inr b
    go (inl a) (inl b) = absurd (meets (0 ∷ 1 ∷ 0 ∷ []) ((0, (refl, (omega arith, omega (arith, a), (omega arith, omega (arith, b), (omega arith, refl)))), omega arith), inl (omega (arith, a))))

none_lacks_less : IndexIsAtLeast 1 2 contradiction 1 10
none_lacks_less num den levels meets = go (one_is_low num den meets)
  where
    ones : 1 * (2 * ((1 * den 0) * den 1)) ≤ ((0 * den 0 + (den 0 - num 0) * 1) * den 1 + (den 1 - num 1) * (1 * den 0)) * 10 → LackAtLeast 1 2 num den 1 10
    ones h = rw (pow_one (den 0), pow_one (den 1), pow_one (den 0 - num 0), pow_one (den 1 - num 1)) h

    go : (num 0 * 5 ≤ 4 * den 0) ⊎ (num 1 * 5 ≤ 4 * den 1) → LackAtLeast 1 2 num den 1 10
    go (inl l) = let h = low_lacks (num 0) (den 0) (den 1) l in ones (omega (arith, h))
    go (inr l) = let h = low_lacks (num 1) (den 1) (den 0) l in ones (omega (arith, h))

-- the first at 4k/(5k+1), a little below 4/5
near_four_fifths : (k : ℕ) → 1 ≤ k → MeetsGarpAtLevels 2 contradiction (at (4 * k) 1) (at (5 * k + 1) 1)
near_four_fifths k positive = no_violation_under_ranks 2 (λ s t. IsWeakAt contradiction (at (4 * k) 1 s) (at (5 * k + 1) 1 s) s t) (λ s t. IsStrictAt contradiction (at (4 * k) 1 s) (at (5 * k + 1) 1 s) s t) (1 ∷ 2 ∷ []) (record {
  one_each = refl;
  weak_never_rises = λ s t a b h. weak s t a b h;
  strict_falls = λ s t a b h. strict s t a b h;
})
  where
    weak : (s t : ℕ) → s < 2 → t < 2 → IsWeakAt contradiction (at (4 * k) 1 s) (at (5 * k + 1) 1 s) s t → slice_index (1 ∷ 2 ∷ []) t ≤ slice_index (1 ∷ 2 ∷ []) s
    weak zero zero a b h = omega arith
    weak zero (suc zero) a b h = absurd (omega (arith, h))
    weak (suc zero) zero a b h = omega arith
    weak (suc zero) (suc zero) a b h = omega arith
    weak zero (suc (suc t)) a b h = absurd (omega arith)
    weak (suc zero) (suc (suc t)) a b h = absurd (omega arith)
    weak (suc (suc s)) t a b h = absurd (omega arith)

    strict : (s t : ℕ) → s < 2 → t < 2 → IsStrictAt contradiction (at (4 * k) 1 s) (at (5 * k + 1) 1 s) s t → slice_index (1 ∷ 2 ∷ []) t < slice_index (1 ∷ 2 ∷ []) s
    strict zero zero a b h = absurd (omega (arith, h))
    strict zero (suc zero) a b h = absurd (omega (arith, h))
    strict (suc zero) zero a b h = omega arith
    strict (suc zero) (suc zero) a b h = absurd (omega (arith, h))
    strict zero (suc (suc t)) a b h = absurd (omega arith)
    strict (suc zero) (suc (suc t)) a b h = absurd (omega arith)
    strict (suc (suc s)) t a b h = absurd (omega arith)

near_are_levels : (k : ℕ) → 1 ≤ k → AreLevels 2 (at (4 * k) 1) (at (5 * k + 1) 1)
near_are_levels k positive zero l = (omega arith, omega arith)
near_are_levels k positive (suc zero) l = (omega arith, omega arith)
near_are_levels k positive (suc (suc s)) l = absurd (omega arith)

some_lack_hardly_more : IndexIsAtMost 1 2 contradiction 1 10
some_lack_hardly_more k positive =
    (at (4 * k) 1, at (5 * k + 1) 1, near_are_levels k positive, near_four_fifths k positive, lack)
  where
    lack : LackAtMost 1 2 (at (4 * k) 1) (at (5 * k + 1) 1) (1 * k + 10) (10 * k)
    lack =
        let e : 5 * k + 1 - 4 * k ≡ k + 1 = omega arith in
        rw (pow_one (5 * k + 1), pow_one (5 * k + 1 - 4 * k), e, pow_one 1, pow_one (1 - 1)) (omega arith)

one_tenth : IsLevelsIndex 1 2 contradiction 1 10
one_tenth = record { positive = omega arith; at_least = none_lacks_less; at_most = some_lack_hardly_more }
