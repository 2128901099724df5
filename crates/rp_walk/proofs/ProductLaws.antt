-- Products keep the laws of a kind of total.
use borrow.Author.Differences.{up, down}
use Rattle.std.proofs.Common.{◌+◌, ◌*◌, ap, ◌≡◌, ℕ, ◌<◌, ◌≤◌, arith, sym}
use Rattle.std.proofs.Math.Nat.{le-max_left, mul-lt-mul_of_pos_right, lt_of_mul-lt-mul_right}
use Rattle.std.specs.Prelude.{pos, ◌*ℤ◌}
use Rattle.rp_walk.specs.ExactTotal.{ExactTotal, SameTotal}
use Rattle.rp_walk.specs.Walk.{KeepsOrder}
use Rattle.rp_walk.specs.LeastTotals.{FitsAlike}
use Rattle.rp_walk.proofs.Rounds.{SameTotal-trans}
use Rattle.rp_walk.proofs.Numbers.{from_nat, parts_of_product, same_from_nat, to_nat}
use Rattle.rp_walk.specs.Products.{FitsFraction, as_total, at_least_one, products}

multiplied : (u v u' v' p q p' q' b d k m : ℕ) → 1 ≤ k → 1 ≤ m → p + v * k ≡ q + u * k → p' + v' * k ≡ q' + u' * k
    → u * d + v' * b < u' * b + v * d → p * (d * m) + q' * (b * m) < p' * (b * m) + q * (d * m)
multiplied u v u' v' p q p' q' b d k m hk hm e e' h =
    let h1 = mul-lt-mul_of_pos_right {k = k} h hk in
    let h2 = mul-lt-mul_of_pos_right {k = m} h1 hm in
    let f = ap (λ n. n * (d * m)) e in
    let f' = ap (λ n. n * (b * m)) e' in
    omega (arith, h2, f, f')

divided : (u v u' v' p q p' q' b d k m : ℕ) → 1 ≤ k → 1 ≤ m → p + v * k ≡ q + u * k → p' + v' * k ≡ q' + u' * k
    → p * (d * m) + q' * (b * m) < p' * (b * m) + q * (d * m) → u * d + v' * b < u' * b + v * d
divided u v u' v' p q p' q' b d k m hk hm e e' h =
    let f = ap (λ n. n * (d * m)) e in
    let f' = ap (λ n. n * (b * m)) e' in
    let h2 : (u * d + v' * b) * k * m < (u' * b + v * d) * k * m = omega (arith, h, f, f') in
    lt_of_mul-lt-mul_right k (lt_of_mul-lt-mul_right m h2)

-- a step multiplies both sides by one positive number
pub products_keep_order : (n : ℕ) (c : ℕ → ℕ → ℕ) → KeepsOrder (products n c)
products_keep_order n c x y t s ht hs =
    let k = at_least_one (c t s) in
    let m = at_least_one (c t t) in
    let hk = le-max_left 1 (c t s) in
    let hm = le-max_left 1 (c t t) in (
      λ h. from_nat (x.num *ℤ pos k) (y.num *ℤ pos k) (x.den * m) (y.den * m)
          (multiplied (up x.num) (down x.num) (up y.num) (down y.num) (up (x.num *ℤ pos k)) (down (x.num *ℤ pos k))
          (up (y.num *ℤ pos k)) (down (y.num *ℤ pos k))
          x.den y.den k m hk hm (parts_of_product x.num k) (parts_of_product y.num k)
          (to_nat x.num y.num x.den y.den h)),
      λ h. from_nat x.num y.num x.den y.den
          (divided (up x.num) (down x.num) (up y.num) (down y.num) (up (x.num *ℤ pos k)) (down (x.num *ℤ pos k))
          (up (y.num *ℤ pos k)) (down (y.num *ℤ pos k))
          x.den y.den k m hk hm (parts_of_product x.num k) (parts_of_product y.num k)
          (to_nat (x.num *ℤ pos k) (y.num *ℤ pos k) (x.den * m) (y.den * m) h)),
    )

-- a step from an observation to itself multiplies by 1
pub products_stay : (n : ℕ) (c : ℕ → ℕ → ℕ) (x : ExactTotal) (t : ℕ) → t < n → SameTotal ((products n c).after x t t) x
products_stay n c x t ht =
    same_from_nat (x.num *ℤ pos (at_least_one (c t t))) x.num (x.den * at_least_one (c t t)) x.den
    (same_parts (up x.num) (down x.num) (up (x.num *ℤ pos (at_least_one (c t t))))
    (down (x.num *ℤ pos (at_least_one (c t t)))) x.den (at_least_one (c t t))
    (parts_of_product x.num (at_least_one (c t t))))
  where
    same_parts : (u v p q b m : ℕ) → p + v * m ≡ q + u * m → p * b + v * (b * m) ≡ u * (b * m) + q * b
    same_parts u v p q b m e =
        let f = ap (λ n. n * b) e in
        omega (arith, f)

pub products_fit_alike : FitsAlike FitsFraction
products_fit_alike x y h (f, lowest, fits, same) = (f, lowest, fits, SameTotal-trans y x (as_total f) (sym h) same)
