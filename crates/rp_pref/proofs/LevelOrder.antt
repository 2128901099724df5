-- Levels, and all ratios with a positive denominator, are totally ordered by their cross products.
use Rattle.std.proofs.Common.{◌≡◌, ℕ, ◌*◌, ◌<◌, sym, ap, ◌∙◌, arith}
use Rattle.std.proofs.Math.Nat.{lt_of_mul-lt-mul_left, mul-lt-mul_of_pos_left}
use Rattle.std.specs.Cmp.{IsTotalOrder, nat_cmp_is, nat_cmp_total, ranked, ranks}
use Rattle.std.specs.Ordering.{MatchOrdering, nat_cmp}
use Rattle.std.specs.declared.cmp.Ordering.{Ordering}
use Rattle.std.specs.declared.cmp.Ordering.TheVariants.{Less, Equal, Greater}
use Rattle.rp_evidence.specs.Preference.{IsLevel}

-- A level's denominator is positive.
pub level_den : (num den : ℕ) → IsLevel num den → 0 < den
level_den num den level = omega (arith, level.0, level.1)

module _ {K : Type 0} (num den : K → ℕ) (positive : (x : K) → 0 < den x) where
  less_trans : (a b p q u v : ℕ) → 0 < b → 0 < v → a * q < p * b → p * v < u * q → a * v < u * b
  less_trans a b p q u v b_pos v_pos l m =
      let k : v * (a * q) < v * (p * b) = mul-lt-mul_of_pos_left l v_pos in
      let j : b * (p * v) < b * (u * q) = mul-lt-mul_of_pos_left m b_pos in
      lt_of_mul-lt-mul_left q (omega arith)

  less_of : (x y : K) → nat_cmp (num x * den y) (num y * den x) ≡ Less → num x * den y < num y * den x
  less_of x y e = ranked (num x * den y) (num y * den x) Less (sym e)

  same_of : (x y : K) → nat_cmp (num x * den y) (num y * den x) ≡ Equal → num x * den y ≡ num y * den x
  same_of x y e = ranked (num x * den y) (num y * den x) Equal (sym e)

  -- a positive factor on both sides changes no order
  scaled : (m n k : ℕ) → 0 < k → nat_cmp (k * m) (k * n) ≡ nat_cmp m n
  scaled m n k pos = sym (nat_cmp_is (k * m) (k * n) (nat_cmp m n) (go (nat_cmp m n) (ranks m n)))
    where
      go : (r : Ordering) → MatchOrdering r (m < n) (m ≡ n) (n < m)
          → MatchOrdering r (k * m < k * n) (k * m ≡ k * n) (k * n < k * m)
      go Less h = mul-lt-mul_of_pos_left h pos
      go Equal h = ap (λ z. k * z) h
      go Greater h = mul-lt-mul_of_pos_left h pos

  -- The cross products order the ratios totally.
  pub cross_total : IsTotalOrder (λ (x y : K). nat_cmp (num x * den y) (num y * den x))
  cross_total = record {
    antisymm = λ x y. nat_cmp_total.antisymm (num x * den y) (num y * den x);
    trans = λ x y z p q. sym (nat_cmp_is (num x * den z) (num z * den x) Less
        (less_trans (num x) (den x) (num y) (den y) (num z) (den z) (positive x) (positive z) (less_of x y p)
        (less_of y z q)));
    congr = λ x y z e.
        let left : den y * (num x * den z) ≡ den x * (num y * den z) =
        omega (arith, ap (λ k. den z * k) (same_of x y e)) in
        let right : den y * (num z * den x) ≡ den x * (num z * den y) = omega arith in
        sym (scaled (num x * den z) (num z * den x) (den y) (positive y))
        ∙ ap (λ k. nat_cmp k (den y * (num z * den x))) left
        ∙ ap (λ k. nat_cmp (den x * (num y * den z)) k) right
        ∙ scaled (num y * den z) (num z * den y) (den x) (positive x);
  }
