-- The two sums over a walk, step by step.
use Rattle.std.proofs.Common.{◌+◌, ◌*◌, ◌^◌, ap, subst, ◌≡◌, ℕ, zero, suc, ◌<◌, ◌≤◌, ◌↔◌, arith, add-one, refl, sym, List, [], ◌∷◌, length, take, slice_index}
use Rattle.std.specs.Prelude.{pos, ◌+ℤ◌}
use Rattle.rp_evidence.specs.Preference.{IsWeak}
use Rattle.rp_evidence.specs.Walk.{IsClosedWalk}
use Rattle.rp_fit.specs.MoneyPump.{HasPumpRatio, gain_from, spent_from, walk_spent}
use Rattle.rp_fit.specs.WalkSums.{next_sum, steps_sum}
use Rattle.rp_fit.proofs.PumpIndex.{gain_split, ratio_from, ratio_to, swapped_at_most}

-- ---- sums

spent_from_more : (c : ℕ → ℕ → ℕ) (s : ℕ) (rest : List ℕ) (k : ℕ) → k < length rest → spent_from c s (take (suc k) rest) ≡ spent_from c s (take k rest) + c (slice_index (s ∷ rest) k) (slice_index (s ∷ rest) k)
spent_from_more c s [] k within = absurd (omega arith)
spent_from_more c s (t ∷ rest) zero within = omega arith
spent_from_more c s (t ∷ rest) (suc k) within =
    let e = spent_from_more c t rest k (omega arith) in
    omega (arith, e)

spent_more : (c : ℕ → ℕ → ℕ) (walk : List ℕ) (k : ℕ) → suc k < length walk → walk_spent c (take (suc (suc k)) walk) ≡ walk_spent c (take (suc k) walk) + c (slice_index walk k) (slice_index walk k)
spent_more c [] k within = absurd (omega arith)
spent_more c (s ∷ rest) k within = spent_from_more c s rest k (omega arith)

steps_sum_more : (c : ℕ → ℕ → ℕ) (s : ℕ) (rest : List ℕ) (k : ℕ) → k < length rest → steps_sum c s (take (suc k) rest) ≡ steps_sum c s (take k rest) + c (slice_index (s ∷ rest) k) (slice_index (s ∷ rest) (suc k))
steps_sum_more c s [] k within = absurd (omega arith)
steps_sum_more c s (t ∷ rest) zero within = omega arith
steps_sum_more c s (t ∷ rest) (suc k) within =
    let e = steps_sum_more c t rest k (omega arith) in
    omega (arith, e)

swapped_more : (c : ℕ → ℕ → ℕ) (walk : List ℕ) (k : ℕ) → suc k < length walk → next_sum c (take (suc (suc k)) walk) ≡ next_sum c (take (suc k) walk) + c (slice_index walk k) (slice_index walk (suc k))
swapped_more c [] k within = absurd (omega arith)
swapped_more c (s ∷ rest) k within = steps_sum_more c s rest k (omega arith)

-- a turn of the loop: `sum` so far, `a` what the step adds, `r` their sum
pub spent_kept : (c : ℕ → ℕ → ℕ) (walk : List ℕ) (k sum a r : ℕ) → k + 1 < length walk
    → (sum ≡ walk_spent c (take (k + 1) walk)) × (sum ≤ k * 2 ^ 51) → a ≡ c (slice_index walk k) (slice_index walk k) → a < 2 ^ 51 → r ≡ sum + a
    → (r ≡ walk_spent c (take (k + 1 + 1) walk)) × (r ≤ (k + 1) * 2 ^ 51)
spent_kept c walk k sum a r within so_far is small e =
    let more = spent_more c walk k (omega arith) in
    (rw (add-one, add-one) (omega (arith, more, e, is, rw add-one at so_far.0)), omega (arith, e, so_far.1))

pub swapped_kept : (c : ℕ → ℕ → ℕ) (walk : List ℕ) (k sum a r : ℕ) → k + 1 < length walk
    → (sum ≡ next_sum c (take (k + 1) walk)) × (sum ≤ k * 2 ^ 51) → a ≡ c (slice_index walk k) (slice_index walk (k + 1)) → a < 2 ^ 51 → r ≡ sum + a
    → (r ≡ next_sum c (take (k + 1 + 1) walk)) × (r ≤ (k + 1) * 2 ^ 51)
swapped_kept c walk k sum a r within so_far is small e =
    let more = swapped_more c walk k (omega arith) in
    (rw (add-one, add-one) (omega (arith, more, e, rw add-one at is, rw add-one at so_far.0)), omega (arith, e, so_far.1))

pub one_entry_spent : (c : ℕ → ℕ → ℕ) (walk : List ℕ) → 0 ≡ walk_spent c (take (0 + 1) walk)
one_entry_spent c [] = refl
one_entry_spent c (s ∷ rest) = refl

pub one_entry_swapped : (c : ℕ → ℕ → ℕ) (walk : List ℕ) → 0 ≡ next_sum c (take (0 + 1) walk)
one_entry_swapped c [] = refl
one_entry_swapped c (s ∷ rest) = refl

-- ---- the ratio of a closed walk, from the two sums

pub swapped_within : (n : ℕ) (c : ℕ → ℕ → ℕ) (walk : List ℕ) → IsClosedWalk n (IsWeak c) walk → next_sum c walk ≤ walk_spent c walk
swapped_within n c [] w = absurd w.1
swapped_within n c (x ∷ rest) w = swapped_at_most n c x w.0 rest w.1.1

pub ratio_by_sums : (n : ℕ) (c : ℕ → ℕ → ℕ) (walk : List ℕ) (num den spent swapped gained : ℕ) → IsClosedWalk n (IsWeak c) walk
    → spent ≡ walk_spent c walk → swapped ≡ next_sum c walk → gained + swapped ≡ spent → (gained * den ≡ num * spent) ↔ HasPumpRatio c num den walk
ratio_by_sums n c [] num den spent swapped gained w e f g = absurd w.1
ratio_by_sums n c (x ∷ rest) num den spent swapped gained w e f g = (λ h. from h, λ h. to h)
  where
    split : gain_from c x rest +ℤ pos (steps_sum c x rest) ≡ pos (spent_from c x rest)
    split = gain_split c x rest

    from : gained * den ≡ num * spent → HasPumpRatio c num den (x ∷ rest)
    from h =
        let k = ap (λ m. m * den) g in
        ratio_from (gain_from c x rest) (spent_from c x rest) (steps_sum c x rest) num den split
        (subst (λ a. a * den ≡ num * a + steps_sum c x rest * den) e (subst (λ b. spent * den ≡ num * spent + b * den) f (omega (arith, h, k))))

    to : HasPumpRatio c num den (x ∷ rest) → gained * den ≡ num * spent
    to h =
        let k = ap (λ m. m * den) g in
        let r = ratio_to (gain_from c x rest) (spent_from c x rest) (steps_sum c x rest) num den split h in
        let r' = subst (λ a. a * den ≡ num * a + steps_sum c x rest * den) (sym e) r in
        let r'' = subst (λ b. spent * den ≡ num * spent + b * den) (sym f) r' in
        omega (arith, r'', k)
