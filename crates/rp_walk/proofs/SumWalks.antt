-- Sums along walks: the total after a walk is what its steps add, and least totals are least sums.
use borrow.Author.Differences.{up, down}
use mir.Syntax.{w128}
use Rattle.std.proofs.Common.{◌+◌, ◌*◌, ◌^◌, ap, subst, ◌≡◌, ℕ, suc, ◌<◌, ◌≤◌, arith, refl, sym, ◌∙◌, List, [], ◌∷◌, length, All, ◌⊎◌, inl, inr}
use Rattle.std.proofs.lemmas.Int.{ints, by_lt_z}
use Rattle.std.specs.Prelude.{ℤ, pos, negsuc, neg_ℤ, ◌+ℤ◌, ◌*ℤ◌, ◌<ℤ◌, ◌≤ℤ◌, FitsSigned}
use Rattle.std.proofs.Math.Nat.{mul-lt-mul_of_pos_right, lt_of_mul-lt-mul_right, mul-le-mul_right}
use Rattle.rp_walk.specs.ExactTotal.{ExactTotal, IsLess, SameTotal}
use Rattle.rp_walk.specs.Walk.{AreObservations, IsTotal, StartsAlike, end_of, total_after}
use Rattle.rp_walk.specs.LeastTotals.{IsLeast}
use Rattle.rp_walk.specs.Settled.{FallsBelowStart, HasLeastTotals}
use Rattle.rp_walk.specs.Outcome.{SettlesInWide}
use Rattle.rp_walk.specs.Sums.{FitsI128, sums, whole_total}
use Rattle.rp_walk.specs.InnerSums.{AddsWithin, added_along}
use Rattle.rp_walk.proofs.SumLaws.{parts_times, sums_keep_order, sums_fit_alike}
use Rattle.rp_walk.proofs.Numbers.{parts_of_sum}
use Rattle.rp_walk.proofs.Order.{not_more_trans, not_less-same}
use Rattle.rp_walk.proofs.Walks.{IsTotal-here, IsTotal-further}
use Rattle.rp_walk.proofs.Paths.{after-same}
use Rattle.rp_walk.proofs.Central.{no_walk_falls}
use Rattle.rp_walk.proofs.Unbounded.{IsLeast-short}

-- ---- the total after a walk is the sum over its steps

two_added : (a k z : ℤ) (b : ℕ) → (a +ℤ (k *ℤ pos b)) +ℤ (z *ℤ pos b) ≡ a +ℤ ((k +ℤ z) *ℤ pos b)
two_added a k z b =
    let e = ap (λ n. n * b) (parts_of_sum k z) in
    omega (arith, ints)

none_added : (a : ℤ) (b : ℕ) → a ≡ a +ℤ (pos 0 *ℤ pos b)
none_added a b = omega (arith, ints)

pub den_after : (n : ℕ) (added : ℕ → ℕ → ℤ) (x : ExactTotal) (t : ℕ) (rest : List ℕ) → (total_after (sums n added) x t rest).den ≡ x.den
den_after n added x t [] = refl
den_after n added x t (s ∷ rest) = den_after n added ((sums n added).after x t s) s rest

pub num_after : (n : ℕ) (added : ℕ → ℕ → ℤ) (x : ExactTotal) (t : ℕ) (rest : List ℕ) → (total_after (sums n added) x t rest).num ≡ x.num +ℤ (added_along added t rest *ℤ pos x.den)
num_after n added x t [] = none_added x.num x.den
num_after n added x t (s ∷ rest) =
    num_after n added ((sums n added).after x t s) s rest ∙ two_added x.num (added t s) (added_along added s rest) x.den

-- ---- numbers

same_sum : (y z v : ℤ) (d : ℕ) → d ≡ 1 → y ≡ pos 0 +ℤ (v *ℤ pos 1) → y *ℤ pos 1 ≡ z *ℤ pos d → v ≡ z
same_sum y z v d ed ey h =
    let g = subst (λ n. y *ℤ pos 1 ≡ z *ℤ pos n) ed h in
    omega (arith, ints)

at_most : (y z v : ℤ) (d : ℕ) → d ≡ 1 → y ≡ pos 0 +ℤ (v *ℤ pos 1) → ¬ ((y *ℤ pos 1) <ℤ (z *ℤ pos d)) → z ≤ℤ v
at_most y z v d ed ey h =
    let g = subst (λ n. ¬ ((y *ℤ pos 1) <ℤ (z *ℤ pos n))) ed h in
    not_below y z v ey g
  where
    below : (y z v : ℤ) → y ≡ pos 0 +ℤ (v *ℤ pos 1) → v <ℤ z → (y *ℤ pos 1) <ℤ (z *ℤ pos 1)
    below y z v e p = omega (arith, ints)

    by_cases : (y z v : ℤ) → y ≡ pos 0 +ℤ (v *ℤ pos 1) → ¬ ((y *ℤ pos 1) <ℤ (z *ℤ pos 1)) → (v <ℤ z) ⊎ (z ≤ℤ v) → z ≤ℤ v
    by_cases y z v e no_less (inl p) = absurd (no_less (below y z v e p))
    by_cases y z v e no_less (inr p) = p

    not_below : (y z v : ℤ) → y ≡ pos 0 +ℤ (v *ℤ pos 1) → ¬ ((y *ℤ pos 1) <ℤ (z *ℤ pos 1)) → z ≤ℤ v
    not_below y z v e no_less = by_cases y z v e no_less (by_lt_z v z (λ p. inl p) (λ p. inr p))

step_at_most : (k z v : ℤ) → ¬ (((v +ℤ (k *ℤ pos 1)) *ℤ pos 1) <ℤ (z *ℤ pos 1)) → z ≤ℤ (v +ℤ k)
step_at_most k z v h = at_most (v +ℤ (k *ℤ pos 1)) z (v +ℤ k) 1 refl (same k v) h
  where
    same : (k v : ℤ) → v +ℤ (k *ℤ pos 1) ≡ pos 0 +ℤ ((v +ℤ k) *ℤ pos 1)
    same k v = omega (arith, ints)

negative_below : (a v : ℤ) (b : ℕ) → 1 ≤ b → v <ℤ pos 0 → ((a +ℤ (v *ℤ pos b)) *ℤ pos b) <ℤ (a *ℤ pos b)
negative_below a v b hb h =
    let e = parts_times a v b b in
    let less : up v < down v = omega (arith, ints) in
    let less_b = mul-lt-mul_of_pos_right {k = b} less hb in
    let less_bb = mul-lt-mul_of_pos_right {k = b} less_b hb in
    omega (arith, ints)

below_negative : (a v : ℤ) (b : ℕ) → 1 ≤ b → ((a +ℤ (v *ℤ pos b)) *ℤ pos b) <ℤ (a *ℤ pos b) → v <ℤ pos 0
below_negative a v b hb h =
    let e = parts_times a v b b in
    let less_bb : up v * b * b < down v * b * b = omega (arith, ints) in
    let less_b : up v * b < down v * b = lt_of_mul-lt-mul_right b less_bb in
    let less : up v < down v = lt_of_mul-lt-mul_right b less_b in
    omega (arith, ints)

-- ---- below a start exactly where the sum is negative

pub ends_below : (n : ℕ) (added : ℕ → ℕ → ℤ) (x : ExactTotal) (t : ℕ) (rest : List ℕ) → added_along added t rest <ℤ pos 0 → IsLess (total_after (sums n added) x t rest) x
ends_below n added x t rest h =
    let p = negative_below x.num (added_along added t rest) x.den x.positive h in
    subst (λ m. ((total_after (sums n added) x t rest).num *ℤ pos x.den) <ℤ (x.num *ℤ pos m)) (sym (den_after n added x t rest))
    (subst (λ z. (z *ℤ pos x.den) <ℤ (x.num *ℤ pos x.den)) (sym (num_after n added x t rest)) p)

pub negative_from : (n : ℕ) (added : ℕ → ℕ → ℤ) (x : ExactTotal) (t : ℕ) (rest : List ℕ) → IsLess (total_after (sums n added) x t rest) x → added_along added t rest <ℤ pos 0
negative_from n added x t rest h =
    let p = subst (λ m. ((total_after (sums n added) x t rest).num *ℤ pos x.den) <ℤ (x.num *ℤ pos m)) (den_after n added x t rest) h in
    below_negative x.num (added_along added t rest) x.den x.positive
    (subst (λ z. (z *ℤ pos x.den) <ℤ (x.num *ℤ pos x.den)) (num_after n added x t rest) p)

pub sums_treat_starts_alike : (n : ℕ) (added : ℕ → ℕ → ℤ) → StartsAlike (sums n added)
sums_treat_starts_alike n added first rest is_walk closed k j x y hx hy less = ends_below n added y first rest (negative_from n added x first rest less)

-- where all observations have a least sum, no closed walk has a negative one
pub no_negative_walk : (n : ℕ) (added : ℕ → ℕ → ℤ) → HasLeastTotals (sums n added) → (first : ℕ) (rest : List ℕ) → AreObservations (sums n added) first rest → end_of first rest ≡ first → 0 < length rest → ¬ (added_along added first rest <ℤ pos 0)
no_negative_walk n added all first rest within closed some negative =
    no_walk_falls (sums n added) (sums_keep_order n added) (sums_treat_starts_alike n added) all (whole_total (pos 0)) (first ∷ rest) falls
  where
    falls : FallsBelowStart (sums n added) (whole_total (pos 0)) (first ∷ rest)
    falls = record {
      first = first;
      rest = rest;
      is_walk = within;
      walk_is = refl;
      has_step = some;
      closed = closed;
      start_reached = (0, whole_total (pos 0), IsTotal-here (sums n added) first within.begins_within, refl);
      ends_below = ends_below n added (whole_total (pos 0)) first rest negative;
    }

-- ---- least sums

-- what the steps of a walk with this total add
pub sum_is : (n : ℕ) (added : ℕ → ℕ → ℤ) (z : ℤ) {k s : ℕ} (y : ExactTotal) (total : IsTotal (sums n added) k s y) → SameTotal y (whole_total z) → added_along added total.first total.rest ≡ z
sum_is n added z y total same =
    let end = total_after (sums n added) (whole_total (pos 0)) total.first total.rest in
    same_sum end.num z (added_along added total.first total.rest) end.den
    (den_after n added (whole_total (pos 0)) total.first total.rest) (num_after n added (whole_total (pos 0)) total.first total.rest)
    (subst (λ (x : ExactTotal). SameTotal x (whole_total z)) (sym total.total) same)

pub sum_lowest : (n : ℕ) (added : ℕ → ℕ → ℤ) (s : ℕ) (z : ℤ) → IsLeast (sums n added) s (whole_total z) → (first : ℕ) (rest : List ℕ) → AreObservations (sums n added) first rest → end_of first rest ≡ s → z ≤ℤ added_along added first rest
sum_lowest n added s z least first rest within ends =
    let total = total_after (sums n added) (whole_total (pos 0)) first rest in
    let kept = least.lowest (length rest) total (record { first = first; rest = rest; walk = within; steps = refl; ends = ends; total = refl }) in
    at_most total.num z (added_along added first rest) total.den (den_after n added (whole_total (pos 0)) first rest) (num_after n added (whole_total (pos 0)) first rest) kept

-- a step from a least sum does not lead below the least sum
pub sum_bound : (n : ℕ) (added : ℕ → ℕ → ℤ) (t s : ℕ) (zt zs : ℤ) → t < n → s < n → IsLeast (sums n added) t (whole_total zt) → IsLeast (sums n added) s (whole_total zs) → zs ≤ℤ (zt +ℤ added t s)
sum_bound n added t s zt zs ht hs at_t at_s =
    let r = at_t.reached in
    let further = IsTotal-further (sums n added) r.0 t s r.1 r.2 hs in
    let kept = at_s.lowest (suc r.0) ((sums n added).after r.1 t s) further in
    let steps = after-same (sums n added) (sums_keep_order n added) r.1 (whole_total zt) t s ht hs r.3 in
    let here : ¬ (IsLess ((sums n added).after (whole_total zt) t s) (whole_total zs)) =
    not_more_trans (whole_total zs) ((sums n added).after r.1 t s) ((sums n added).after (whole_total zt) t s) kept (not_less-same ((sums n added).after (whole_total zt) t s) ((sums n added).after r.1 t s) (sym steps)) in
    step_at_most (added t s) zs zt here

-- ---- how far sums go

along_within : (n : ℕ) (added : ℕ → ℕ → ℤ) (b : ℕ) → AddsWithin n added b → (t : ℕ) (rest : List ℕ) → t < n → All (λ s. s < n) rest → (up (added_along added t rest) ≤ down (added_along added t rest) + length rest * b) × (down (added_along added t rest) ≤ up (added_along added t rest) + length rest * b)
along_within n added b limit t [] ht within = (omega (arith, ints), omega (arith, ints))
along_within n added b limit t (s ∷ rest) ht within =
    let hs : s < n = within 0 s (omega arith) in
    let further = along_within n added b limit s rest hs (λ k d below. within (suc k) d (omega arith)) in
    one_more (added t s) (added_along added s rest) (length rest * b) (suc (length rest) * b) (omega arith) (limit t s ht hs) further
  where
    one_more : (k z : ℤ) (m j : ℕ) → j ≡ b + m → (k ≤ℤ pos b) × (neg_ℤ (pos b) ≤ℤ k) → (up z ≤ down z + m) × (down z ≤ up z + m) → (up (k +ℤ z) ≤ down (k +ℤ z) + j) × (down (k +ℤ z) ≤ up (k +ℤ z) + j)
    one_more k z m j is_j (high, low) (up_z, down_z) =
        let sum = parts_of_sum k z in
        (omega (arith, ints), omega (arith, ints))

fits_bound : (z : ℤ) (m : ℕ) → m < 2 ^ 127 → up z ≤ down z + m → down z ≤ up z + m → FitsSigned w128 z
fits_bound (pos k) m small h g = record { sfits = omega (arith, ints) }
fits_bound (negsuc k) m small h g = record { sfits = omega (arith, ints) }

-- a least sum is at most that of no step, and that of fewer steps than there are observations
pub least_sum_limits : (n : ℕ) (added : ℕ → ℕ → ℤ) (b : ℕ) → AddsWithin n added b → (s : ℕ) (z : ℤ) → s < n → IsLeast (sums n added) s (whole_total z) → (z ≤ℤ pos 0) × (neg_ℤ (pos (n * b)) ≤ℤ z)
least_sum_limits n added b limit s z hs least = (
  sum_lowest n added s z least s [] (record { begins_within = hs; goes_within = λ k d below. absurd (omega arith) }) refl,
  above short.1 short.2 short.3 short.4,
)
  where
    short : (i : ℕ) × (y : ExactTotal) × (i < n) × IsTotal (sums n added) i s y × SameTotal y (whole_total z)
    short = IsLeast-short (sums n added) (sums_keep_order n added) s (whole_total z) least

    bounded : (v : ℤ) (k : ℕ) → k < n → down v ≤ up v + k * b → neg_ℤ (pos (n * b)) ≤ℤ v
    bounded v k few h =
        let rows = mul-le-mul_right {m = k} {n = n} b (omega arith) in
        far v (n * b) (omega arith)
      where
        far : (v : ℤ) (m : ℕ) → down v ≤ up v + m → neg_ℤ (pos m) ≤ℤ v
        far v m h = omega (arith, ints)

    above : {i : ℕ} (y : ExactTotal) → i < n → IsTotal (sums n added) i s y → SameTotal y (whole_total z) → neg_ℤ (pos (n * b)) ≤ℤ z
    above y less total same =
        subst (λ v. neg_ℤ (pos (n * b)) ≤ℤ v) (sum_is n added z y total same)
        (bounded (added_along added total.first total.rest) (length total.rest) (omega (arith, total.steps))
        (along_within n added b limit total.first total.rest total.walk.begins_within total.walk.goes_within).1)

-- where as many steps as there are observations stay within an `i128`, no sum is too wide
pub never_wide : (n : ℕ) (added : ℕ → ℕ → ℤ) (b : ℕ) → AddsWithin n added b → n * b < 2 ^ 127 → (k t s : ℕ) → ¬ (SettlesInWide (sums n added) FitsI128 k t s)
never_wide n added b limit small k t s wide =
    let too = wide.first.too_wide in
    let x = too.not_fit in
    let r = x.1.reached in
    let walk = r.3 in
    let steps = after-same (sums n added) (sums_keep_order n added) r.1 x.0 t s too.from_within too.to_within r.4 in
    x.2 (sums_fit_alike ((sums n added).after r.1 t s) ((sums n added).after x.0 t s) steps
    (subst (λ (y : ExactTotal). FitsI128 ((sums n added).after y t s)) walk.total
    (fit walk.first walk.rest walk.walk.begins_within walk.walk.goes_within (omega (arith, walk.steps, r.2, too.round_within)) too.from_within too.to_within)))
  where
    same : (y k v : ℤ) (d : ℕ) → d ≡ 1 → y ≡ pos 0 +ℤ (v *ℤ pos 1) → (y +ℤ (k *ℤ pos d)) *ℤ pos 1 ≡ (v +ℤ k) *ℤ pos d
    same y k v d ed ey = subst (λ m. (y +ℤ (k *ℤ pos m)) *ℤ pos 1 ≡ (v +ℤ k) *ℤ pos m) (sym ed) (at_one y k v ey)
      where
        at_one : (y k v : ℤ) → y ≡ pos 0 +ℤ (v *ℤ pos 1) → (y +ℤ (k *ℤ pos 1)) *ℤ pos 1 ≡ (v +ℤ k) *ℤ pos 1
        at_one y k v e = omega (arith, ints)

    stays_within : (v k : ℤ) (m : ℕ) → m + b ≤ n * b → (up v ≤ down v + m) × (down v ≤ up v + m) → (k ≤ℤ pos b) × (neg_ℤ (pos b) ≤ℤ k) → FitsSigned w128 (v +ℤ k)
    stays_within v k m few (up_v, down_v) (high, low) =
        let sum = parts_of_sum v k in
        fits_bound (v +ℤ k) (m + b) (omega arith) (omega (arith, ints)) (omega (arith, ints))

    fit : (first : ℕ) (rest : List ℕ) → first < n → All (λ m. m < n) rest → length rest < n → t < n → s < n → FitsI128 ((sums n added).after (total_after (sums n added) (whole_total (pos 0)) first rest) t s)
    fit first rest begins within short ht hs =
        let total = total_after (sums n added) (whole_total (pos 0)) first rest in
        let rows = mul-le-mul_right {m = length rest + 1} {n = n} b (omega arith) in (
          added_along added first rest +ℤ added t s,
          stays_within (added_along added first rest) (added t s) (length rest * b) (omega (arith, rows))
              (along_within n added b limit first rest begins within) (limit t s ht hs),
          same total.num (added t s) (added_along added first rest) total.den (den_after n added (whole_total (pos 0)) first rest) (num_after n added (whole_total (pos 0)) first rest),
        )
