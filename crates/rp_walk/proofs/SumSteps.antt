-- Single steps of sums in an `i128`, and pairs of steps there and back.
use borrow.Author.Differences.{up, down}
use mir.Syntax.{w128}
use mir.Val.{of_z, to_z}
use Rattle.std.proofs.Common.{◌+◌, ap, subst, ◌≡◌, ℕ, ◌<◌, ◌≤◌, ◌↔◌, arith, refl, sym, ◌∙◌}
use Rattle.std.proofs.lemmas.Int.{ints, to_z-of_z}
use Rattle.std.specs.Prelude.{ℤ, pos, ◌+ℤ◌, ◌*ℤ◌, ◌<ℤ◌, FitsSigned}
use Rattle.std.proofs.Math.Nat.{mul-lt-mul_of_pos_right}
use Rattle.rp_walk.specs.ExactTotal.{ExactTotal}
use Rattle.rp_walk.specs.Settled.{PairBreaks}
use Rattle.rp_walk.specs.Sums.{FitsI128, sums, whole_total}
use Rattle.rp_walk.proofs.SumLaws.{parts_times}
use Rattle.rp_walk.proofs.Walks.{IsTotal-here}

-- two steps that together add less than nothing lead below any total
below_around : (a k j : ℤ) (b : ℕ) → 1 ≤ b → (k +ℤ j) <ℤ pos 0 → (((a +ℤ (k *ℤ pos b)) +ℤ (j *ℤ pos b)) *ℤ pos b) <ℤ (a *ℤ pos b)
below_around a k j b hb h =
    let e = parts_times (a +ℤ (k *ℤ pos b)) j b b in
    let f = parts_times a k b b in
    let less : up k + up j < down k + down j = omega (arith, ints) in
    let less_b = mul-lt-mul_of_pos_right {k = b} less hb in
    let less_bb = mul-lt-mul_of_pos_right {k = b} less_b hb in
    omega (arith, ints)

around_below : (k j : ℤ) → (((pos 0 +ℤ (k *ℤ pos 1)) +ℤ (j *ℤ pos 1)) *ℤ pos 1) <ℤ (pos 0 *ℤ pos 1) → (k +ℤ j) <ℤ pos 0
around_below k j h = omega (arith, ints)

-- the walk s, t, s ends below every start exactly where its two steps add less than nothing
pub breaks_by_sum : (n : ℕ) (added : ℕ → ℕ → ℤ) (s t : ℕ) → s < n → ((added s t +ℤ added t s) <ℤ pos 0) ↔ PairBreaks (sums n added) s t
breaks_by_sum n added s t hs = (
  λ h k x reached. below_around x.num (added s t) (added t s) x.den x.positive h,
  λ breaks. around_below (added s t) (added t s) (breaks 0 (whole_total (pos 0)) (IsTotal-here (sums n added) s hs)),
)

-- the exact total after a step from a whole number
abbrev pub after_whole : ℤ → ℤ → ExactTotal
after_whole v k = record { num = v +ℤ (k *ℤ pos 1); den = 1; positive = (whole_total v).positive }

same_number : (v k z : ℤ) → (v +ℤ (k *ℤ pos 1)) *ℤ pos 1 ≡ z *ℤ pos 1 → z ≡ v +ℤ k
same_number v k z h = omega (arith, ints)

-- a sum that some `i128` stands for is found
pub sum_fits : (v k k' : ℤ) → FitsSigned w128 v → FitsSigned w128 k → k ≡ k' → FitsI128 ((after_whole v k')) → FitsSigned w128 (to_z w128 (of_z w128 v) +ℤ to_z w128 (of_z w128 k))
sum_fits v k k' hv hk e (z, fits, same) =
    let sum : z ≡ v +ℤ k = same_number v k' z same ∙ ap (λ n. v +ℤ n) (sym e) in
    rw (to_z-of_z w128 v hv, to_z-of_z w128 k hk) (subst (λ n. FitsSigned w128 n) sum fits)

-- and what is found stands for the sum
pub found_fits : (v k k' : ℤ) → FitsSigned w128 v → FitsSigned w128 k → k ≡ k' → FitsSigned w128 (to_z w128 (of_z w128 v) +ℤ to_z w128 (of_z w128 k)) → FitsI128 (after_whole v k')
found_fits v k k' hv hk e fits =
    let sum : to_z w128 (of_z w128 v) +ℤ to_z w128 (of_z w128 k) ≡ v +ℤ k = rw (to_z-of_z w128 v hv, to_z-of_z w128 k hk) refl in
    (v +ℤ k, subst (λ n. FitsSigned w128 n) sum fits, same_from v k' k e)
  where
    same_from : (v k' k : ℤ) → k ≡ k' → (v +ℤ (k' *ℤ pos 1)) *ℤ pos 1 ≡ (v +ℤ k) *ℤ pos 1
    same_from v k' k e = omega (arith, ints)
