-- Sums keep the laws of a kind of total.
use borrow.Author.Differences.{up, down}
use Rattle.std.proofs.Common.{◌+◌, ◌*◌, ap, subst, ◌≡◌, ℕ, ◌<◌, arith, sym}
use Rattle.std.proofs.lemmas.Int.{ints}
use Rattle.std.specs.Prelude.{ℤ, pos, ◌+ℤ◌, ◌-ℤ◌, ◌*ℤ◌, ◌<ℤ◌}
use Rattle.rp_evidence.specs.Quasilinear.{step_sum}
use Rattle.rp_walk.specs.ExactTotal.{ExactTotal, SameTotal}
use Rattle.rp_walk.specs.Walk.{KeepsOrder}
use Rattle.rp_walk.specs.LeastTotals.{FitsAlike}
use Rattle.rp_walk.specs.Sums.{FitsI128, sums, whole_total}
use Rattle.rp_walk.proofs.Rounds.{SameTotal-trans}
use Rattle.rp_walk.proofs.Numbers.{parts_of_sum, parts_of_product}

-- the parts of a + k * b, all times d
pub parts_times : (a k : ℤ) (b d : ℕ) → up (a +ℤ (k *ℤ pos b)) * d + (down a * d + down k * b * d) ≡ down (a +ℤ (k *ℤ pos b)) * d + (up a * d + up k * b * d)
parts_times a k b d =
    let e = ap (λ n. n * d) (parts_of_sum a (k *ℤ pos b)) in
    let f = ap (λ n. n * d) (parts_of_product k b) in
    omega (arith, e, f)

added-less : (a c k : ℤ) (b d : ℕ) → (a *ℤ pos d) <ℤ (c *ℤ pos b) → ((a +ℤ (k *ℤ pos b)) *ℤ pos d) <ℤ ((c +ℤ (k *ℤ pos d)) *ℤ pos b)
added-less a c k b d h =
    let e = parts_times a k b d in
    let f = parts_times c k d b in
    omega (arith, ints)

less-added : (a c k : ℤ) (b d : ℕ) → ((a +ℤ (k *ℤ pos b)) *ℤ pos d) <ℤ ((c +ℤ (k *ℤ pos d)) *ℤ pos b) → (a *ℤ pos d) <ℤ (c *ℤ pos b)
less-added a c k b d h =
    let e = parts_times a k b d in
    let f = parts_times c k d b in
    omega (arith, ints)

-- a step adds the same to both sides
pub sums_keep_order : (n : ℕ) (added : ℕ → ℕ → ℤ) → KeepsOrder (sums n added)
sums_keep_order n added x y t s ht hs =
    (added-less x.num y.num (added t s) x.den y.den, less-added x.num y.num (added t s) x.den y.den)

nothing_added : (a : ℤ) (b : ℕ) → (a +ℤ (pos 0 *ℤ pos b)) *ℤ pos b ≡ a *ℤ pos b
nothing_added a b =
    let e = parts_times a (pos 0) b b in
    omega (arith, ints)

-- where a step from an observation to itself adds 0, it changes nothing
pub sums_stay : (n : ℕ) (added : ℕ → ℕ → ℤ) → ((t : ℕ) → t < n → added t t ≡ pos 0) → (x : ExactTotal) (t : ℕ) → t < n → SameTotal ((sums n added).after x t t) x
sums_stay n added none x t ht =
    subst (λ k. (x.num +ℤ (k *ℤ pos x.den)) *ℤ pos x.den ≡ x.num *ℤ pos x.den) (sym (none t ht)) (nothing_added x.num x.den)

nothing_paid : (m : ℕ) → pos m -ℤ pos m ≡ pos 0
nothing_paid m = omega (arith, ints)

-- a step from an observation to itself costs what was spent there, so it adds nothing
pub step_sums_stay : (n : ℕ) (c : ℕ → ℕ → ℕ) (x : ExactTotal) (t : ℕ) → t < n → SameTotal ((sums n (step_sum c)).after x t t) x
step_sums_stay n c = sums_stay n (step_sum c) (λ t ht. nothing_paid (c t t))

pub sums_fit_alike : FitsAlike FitsI128
sums_fit_alike x y h (z, fits, same) = (z, fits, SameTotal-trans y x (whole_total z) (sym h) same)
