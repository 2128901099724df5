-- Values that bound every step bound the sums and the products over closed walks: they are added, or multiplied, along
-- the walk, and the first and the last are the same.
use Rattle.std.proofs.Common.{◌≡◌, ◌<◌, ◌≤◌, ◌+◌, ◌*◌, ◌-◌, ◌^◌, ℕ, suc, List, [], ◌∷◌, length, sym, subst, arith}
use Rattle.std.proofs.lemmas.Int.{ints}
use Rattle.std.proofs.Math.Nat.{le_of_mul-le-mul_left, mul-le-mul_left, pow-succ', pow-zero}
use Rattle.std.specs.Prelude.{ℤ, pos, ◌+ℤ◌, ◌≤ℤ◌}
use Rattle.rp_evidence.specs.Homothetic.{product_from}
use Rattle.rp_evidence.specs.Walk.{AnyStep, IsClosedWalk, LeadsTo}
use Rattle.rp_evidence.proofs.Walks.{starts_below}
use Rattle.rp_fit.specs.HomotheticLevel.{HomotheticLevelIsAtLeast}
use Rattle.rp_fit.specs.QuasilinearLevel.{CostsPartOnWalks}
use Rattle.rp_fit.specs.WalkSums.{steps_sum}

closed_leads : (n x : ℕ) (w : List ℕ) → IsClosedWalk n AnyStep (x ∷ w) → LeadsTo n AnyStep x x w
closed_leads n x w h = subst (λ z. LeadsTo n AnyStep x z w) (sym h.1.0) h.1.1

-- ---- sums

module _ (n : ℕ) (c : ℕ → ℕ → ℕ) (num den : ℕ) (value : ℕ → ℤ)
    (bounds : (s t : ℕ) → s < n → t < n → (value t +ℤ pos (num * c s s)) ≤ℤ (value s +ℤ pos (den * c s t))) where
  added : (u v w : ℤ) (a b p q : ℕ) → (v +ℤ pos (num * a)) ≤ℤ (u +ℤ pos (den * b)) → (w +ℤ pos (num * p)) ≤ℤ (v +ℤ pos (den * q))
      → (w +ℤ pos (num * (a + p))) ≤ℤ (u +ℤ pos (den * (b + q)))
  added u v w a b p q h k = omega (arith, ints)

  sums_along : (s t : ℕ) (w : List ℕ) → LeadsTo n AnyStep s t w
      → (value t +ℤ pos (num * steps_sum (λ a b. c a a) s w)) ≤ℤ (value s +ℤ pos (den * steps_sum c s w))
  sums_along s t [] h = subst (λ z. (value z +ℤ pos (num * 0)) ≤ℤ (value s +ℤ pos (den * 0))) h.1 (omega (arith, ints))
  sums_along s t (x ∷ w) h =
      added (value s) (value x) (value t) (c s s) (c s x) (steps_sum (λ a b. c a a) x w) (steps_sum c x w)
      (bounds s x h.0 (starts_below n AnyStep x t w h.2)) (sums_along x t w h.2)

  cancelled : (v : ℤ) (p q : ℕ) → (v +ℤ pos (num * p)) ≤ℤ (v +ℤ pos (den * q)) → num * p ≤ den * q
  cancelled v p q h = omega (arith, ints)

  pub costs_part_by_values : CostsPartOnWalks n c num den
  costs_part_by_values [] h = absurd h.1
  costs_part_by_values (x ∷ w) h =
      cancelled (value x) (steps_sum (λ a b. c a a) x w) (steps_sum c x w) (sums_along x x w (closed_leads n x w h))

-- ---- products

module _ (n : ℕ) (c : ℕ → ℕ → ℕ) (low den : ℕ) (value : ℕ → ℕ)
    (bounds : (s t : ℕ) → s < n → t < n → (value t * low) * c s s ≤ (value s * c s t) * den) where
  multiplied : (u v w a b p q low_power den_power : ℕ) → (v * low) * a ≤ (u * b) * den → w * (low_power * p) ≤ v * (den_power * q)
      → w * ((low * low_power) * (a * p)) ≤ u * ((den * den_power) * (b * q))
  multiplied u v w a b p q low_power den_power h k =
      let i : (low * a) * (w * (low_power * p)) ≤ (low * a) * (v * (den_power * q)) = mul-le-mul_left (low * a) k in
      let j : (den_power * q) * ((v * low) * a) ≤ (den_power * q) * ((u * b) * den) = mul-le-mul_left (den_power * q) h in
      omega (arith, i, j)

  products_along : (s t : ℕ) (w : List ℕ) → LeadsTo n AnyStep s t w
      → value t * (low ^ length w * product_from (λ a b. c a a) s w) ≤ value s * (den ^ length w * product_from c s w)
  products_along s t [] h =
      subst (λ z. value z * (low ^ 0 * 1) ≤ value s * (den ^ 0 * 1)) h.1
      (let p : low ^ 0 ≡ 1 = pow-zero low in let q : den ^ 0 ≡ 1 = pow-zero den in rw (p, q) (omega arith))
  products_along s t (x ∷ w) h =
      rw (pow-succ' low (length w), pow-succ' den (length w))
      (multiplied (value s) (value x) (value t) (c s s) (c s x) (product_from (λ a b. c a a) x w) (product_from c x w) (low ^ length w) (den ^ length w)
      (bounds s x h.0 (starts_below n AnyStep x t w h.2)) (products_along x t w h.2))

  pub level_by_values : ((s : ℕ) → s < n → 1 ≤ value s) → HomotheticLevelIsAtLeast n c low den
  level_by_values positive [] h = absurd h.1
  level_by_values positive (x ∷ w) h =
      let l = closed_leads n x w h in
      let e : length w ≡ suc (length w) - 1 = omega arith in
      let p = positive x (starts_below n AnyStep x x w l) in
      subst (λ k. low ^ k * product_from (λ a b. c a a) x w ≤ den ^ k * product_from c x w) e
      (le_of_mul-le-mul_left {k = value x} (products_along x x w l) (omega (arith, p)))
