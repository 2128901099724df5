-- Products of fractions: those that are one number have the same lowest terms, and pass the width alike.
use Rattle.std.proofs.Common.{◌≡◌, ℕ, ◌*◌, ◌<◌, ◌≤◌, ◌↔◌, Result, Ok, Err, IfOk, ap, arith, sym}
use Rattle.std.proofs.Math.Nat.{one-le-mul, eq_of_mul-eq-mul_right, mul-lt-mul_of_pos_right, lt_of_mul-lt-mul_right}
use Rattle.rp_num.specs.Fraction.{Fraction, IsLowestTerms, PassesWidth}

pub lowest_same : (n d m e : ℕ) (f : Fraction) → 1 ≤ d → n * e ≡ m * d → IsLowestTerms n d f → IsLowestTerms m e f
lowest_same n d m e f some same h = record {
  positive = h.positive;
  coprime = h.coprime;
  same_number =
      let p = ap (λ z. z * e) h.same_number in
      let q = ap (λ z. z * f.den) same in
      eq_of_mul-eq-mul_right d some (f.num * e) (m * f.den) (omega (arith, p, q));
}

pub wide_same : (n d m e : ℕ) → 1 ≤ d → n * e ≡ m * d → PassesWidth n d → PassesWidth m e
wide_same n d m e some same w = (w.0, lowest_same n d m e w.0 some same w.1, w.2)

-- a fraction v times k, where k is a/b in lowest terms
times : (v k : Fraction) (a b : ℕ) → IsLowestTerms a b k → (v.num * k.num) * (v.den * b) ≡ (v.num * a) * (v.den * k.den)
times v k a b h = let e = ap (λ z. z * (v.num * v.den)) h.same_number in omega (arith, e)

pub product_lowest : (v k p : Fraction) (a b : ℕ) → 1 ≤ v.den → IsLowestTerms a b k → IsLowestTerms (v.num * k.num) (v.den * k.den) p → IsLowestTerms (v.num * a) (v.den * b) p
product_lowest v k p a b some h l =
    lowest_same (v.num * k.num) (v.den * k.den) (v.num * a) (v.den * b) p (one-le-mul some h.positive) (times v k a b h) l

pub product_wide : (v k : Fraction) (a b : ℕ) → 1 ≤ v.den → 1 ≤ b → IsLowestTerms a b k → PassesWidth (v.num * k.num) (v.den * k.den) ↔ PassesWidth (v.num * a) (v.den * b)
product_wide v k a b some own h = (
  wide_same (v.num * k.num) (v.den * k.den) (v.num * a) (v.den * b) (one-le-mul some h.positive) (times v k a b h),
  wide_same (v.num * a) (v.den * b) (v.num * k.num) (v.den * k.den) (one-le-mul some own) (sym (times v k a b h)),
)

-- a number in lowest terms, times a/b
taken : (v : Fraction) (n d a b : ℕ) → IsLowestTerms n d v → (v.num * a) * (d * b) ≡ (n * a) * (v.den * b)
taken v n d a b h = let e = ap (λ z. z * (a * b)) h.same_number in omega (arith, e)

pub taken_lowest : (v p : Fraction) (n d a b : ℕ) → 1 ≤ b → IsLowestTerms n d v → IsLowestTerms (v.num * a) (v.den * b) p → IsLowestTerms (n * a) (d * b) p
taken_lowest v p n d a b own h l =
    lowest_same (v.num * a) (v.den * b) (n * a) (d * b) p (one-le-mul h.positive own) (taken v n d a b h) l

pub taken_wide : (v : Fraction) (n d a b : ℕ) → 1 ≤ d → 1 ≤ b → IsLowestTerms n d v → PassesWidth (v.num * a) (v.den * b) ↔ PassesWidth (n * a) (d * b)
taken_wide v n d a b some own h = (
  wide_same (v.num * a) (v.den * b) (n * a) (d * b) (one-le-mul h.positive own) (taken v n d a b h),
  wide_same (n * a) (d * b) (v.num * a) (v.den * b) (one-le-mul some own) (sym (taken v n d a b h)),
)

-- what a call gave for the product, in the words of the costs
pub product_given : {E : Type 0} (r : Result Fraction E) (v k : Fraction) (a b x y : ℕ) → 1 ≤ v.den → x ≡ a → y ≡ b → IsLowestTerms x y k → IfOk r (λ p. IsLowestTerms (v.num * k.num) (v.den * k.den) p) → IfOk r (λ p. IsLowestTerms (v.num * a) (v.den * b) p)
product_given (Ok p) v k a b x y some ea eb h l = product_lowest v k p a b some (rw (ea, eb) at h) l
product_given (Err e) v k a b x y some ea eb h l = tt

pub wide_given : (v k : Fraction) (a b x y : ℕ) (W : Type 0) → 1 ≤ v.den → 1 ≤ b → x ≡ a → y ≡ b → IsLowestTerms x y k → W ↔ PassesWidth (v.num * k.num) (v.den * k.den) → W ↔ PassesWidth (v.num * a) (v.den * b)
wide_given v k a b x y W some own ea eb h w =
    let p = product_wide v k a b some own (rw (ea, eb) at h) in
    (λ is_w. p.0 (w.0 is_w), λ is_wide. w.1 (p.1 is_wide))

-- a product that is n/d in lowest terms is below w exactly where n/d is
pub below_cross : (p w : Fraction) (n d : ℕ) → 1 ≤ d → IsLowestTerms n d p → (p.num * w.den < w.num * p.den) ↔ (n * w.den < w.num * d)
below_cross p w n d some h =
    let e = ap (λ z. z * w.den) h.same_number in (
      λ less. lt_of_mul-lt-mul_right p.den (let m = mul-lt-mul_of_pos_right {k = d} less some in omega (arith, m, e)),
      λ less. lt_of_mul-lt-mul_right d (let m = mul-lt-mul_of_pos_right {k = p.den} less h.positive in omega (arith, m, e)),
    )
