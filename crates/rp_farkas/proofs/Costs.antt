-- What feasible prices cost: never less than nothing, and no feasible point is worth more.
use Rattle.std.proofs.Common.{◌≡◌, ◌<◌, ◌^◌, ℕ, ℤ, pos, negsuc, ◌*ℤ◌, ◌≤ℤ◌, refl, arith}
use Rattle.std.proofs.lemmas.Int.{ints}
use Rattle.std.specs.Int.{w128}
use Rattle.std.specs.Int.RustNames.{FitsSigned, unsigned_abs}
use Rattle.rp_farkas.specs.Best.{HasNoBound}
use Rattle.rp_farkas.specs.LinearProgram.{LinearProgram}
use Rattle.rp_farkas.specs.Prices.{HasFeasiblePrices, value_of_prices}
use Rattle.rp_farkas.proofs.Duality.{weak_duality}
use Rattle.rp_farkas.proofs.Integers.{times_mono}
use Rattle.rp_farkas.proofs.Totals.{total-mono, total-zero}

without_sign : (z : ℤ) → pos 0 ≤ℤ z → z ≡ pos (unsigned_abs z)
without_sign (pos n) h = refl
without_sign (negsuc n) h = absurd (omega (arith, ints, h))

pub fits_without_sign : (z : ℤ) → pos 0 ≤ℤ z → FitsSigned w128 z → unsigned_abs z < 2 ^ 127
fits_without_sign (pos n) h fits = fits.sfits
fits_without_sign (negsuc n) h fits = absurd (omega (arith, ints, h))

module _ (p : LinearProgram) where
  -- where no right side is negative, prices never cost less than nothing
  pub cost_not_negative : ((i : ℕ) → i < p.rows → pos 0 ≤ℤ p.b i) → (x : ℕ → ℕ) → pos 0 ≤ℤ value_of_prices p x
  cost_not_negative right x =
      let h = total-mono p.rows (λ _. pos 0) (λ i. p.b i *ℤ pos (x i)) (λ i i_in. let k = times_mono (pos 0) (p.b i) (x i) (right i i_in) in omega (arith, ints, k)) in
      let z = total-zero p.rows in
      omega (arith, ints, h, z)

  pub cost_whole : ((i : ℕ) → i < p.rows → pos 0 ≤ℤ p.b i) → (x : ℕ → ℕ) → value_of_prices p x ≡ pos (unsigned_abs (value_of_prices p x))
  cost_whole right x = without_sign (value_of_prices p x) (cost_not_negative right x)

  -- where some prices are feasible no feasible point passes what they cost
  pub prices_bound : HasFeasiblePrices p → ¬ HasNoBound p
  prices_bound (den, x, f) none =
      let h = none (value_of_prices p x) den f.den_positive in
      let w = weak_duality p h.den den h.point x h.feasible f in
      let a = h.above in
      omega (arith, ints, w, a)
