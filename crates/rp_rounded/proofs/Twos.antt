-- Numbers and powers of two: one digit more, one factor less, and what stays of a rounded product.
use Rattle.std.proofs.Common.{◌≡◌, ℕ, ◌+◌, ◌-◌, ◌*◌, ◌/◌, ◌%◌, ◌^◌, ◌<◌, ◌≤◌, zero, suc, add-one, arith, ap, subst, sym, ◌∙◌, Option, Some, None, IfSome}
use Rattle.std.proofs.Math.Nat.{mul-le-mul_right, mul-lt-mul_of_pos_right, pow-suc}
use Rattle.std.proofs.lemmas.Nat.{pow-add, pow_pos}
use Rattle.rp_num.specs.Fraction.{Fraction, IsLowestTerms}
use Rattle.rp_rounded.specs.Rounded.{IsLeading, IsRoundedDown}

pub next_power : (k : ℕ) → 2 ^ (k + 1) ≡ 2 ^ k * 2
next_power k = rw add-one (pow-suc 2 k)

-- an even number, written with one factor of two less
pub halved : (p k : ℕ) → p % 2 ≡ 0 → p / 2 * 2 ^ (k + 1) ≡ p * 2 ^ k
halved p k even =
    let e : p ≡ p / 2 * 2 = omega arith in
    let left = ap (λ z. z * 2 ^ k) e in
    let right = ap (λ z. p / 2 * z) (next_power k) in
    omega (arith, left, right)

-- the same of a fraction over a power of two
pub halved_over : (p n a t : ℕ) → p % 2 ≡ 0 → 0 < t → p * a ≡ n * 2 ^ t → p / 2 * a ≡ n * 2 ^ (t - 1)
halved_over p n a zero even some e = absurd (omega arith)
halved_over p n a (suc t) even some e =
    let less : suc t - 1 ≡ t = omega arith in
    let two : p ≡ p / 2 * 2 = omega arith in
    let left = ap (λ z. z * a) two in
    let right = ap (λ z. n * z) (pow-suc 2 t) in
    let goal : p / 2 * a ≡ n * 2 ^ t = omega (arith, left, right, e) in
    goal ∙ ap (λ z. n * 2 ^ z) (sym less)

-- one binary digit more of a quotient
pub digit_more : (n k x y : ℕ) → n * 2 ^ k ≡ x → y ≡ 2 * x → n * 2 ^ (k + 1) ≡ y
digit_more n k x y before twice =
    let e = ap (λ z. n * z) (next_power k) in
    omega (arith, e, before, twice)

-- 60 digits of a quotient with the rest of the division
pub leading_found : (n d w r k : ℕ) → n * 2 ^ k ≡ w * d + r → r < d → 2 ^ 59 ≤ w → w < 2 ^ 60 → IsLeading n d w k
leading_found n d w r k e rest from below = record {
  from = from;
  below = below;
  not_above = omega (arith, e);
  greatest = omega (arith, e, rest);
}

-- a power of two of the divisor stands in the place of the point
pub moved_on : (n part own twos den lead k : ℕ) → part * 2 ^ twos ≡ den → IsLeading n (part * own) lead k → IsLeading n (den * own) lead (k + twos)
moved_on n part own twos den lead k e h =
    let up : lead * (part * own) * 2 ^ twos ≤ n * 2 ^ k * 2 ^ twos = mul-le-mul_right (2 ^ twos) h.not_above in
    let next : n * 2 ^ k * 2 ^ twos < (lead + 1) * (part * own) * 2 ^ twos = mul-lt-mul_of_pos_right h.greatest (pow_pos twos) in
    let power : n * 2 ^ (k + twos) ≡ n * 2 ^ k * 2 ^ twos = ap (λ z. n * z) (pow-add 2 k twos) ∙ regroup n (2 ^ k) (2 ^ twos) in
    let whole : lead * (den * own) ≡ lead * (part * own) * 2 ^ twos = ap (λ z. lead * (z * own)) (sym e) ∙ turned lead part own (2 ^ twos) in
    let more : (lead + 1) * (den * own) ≡ (lead + 1) * (part * own) * 2 ^ twos = ap (λ z. (lead + 1) * (z * own)) (sym e) ∙ turned (lead + 1) part own (2 ^ twos) in
    record {
      from = h.from;
      below = h.below;
      not_above = omega (arith, up, power, whole);
      greatest = omega (arith, next, power, more);
    }
  where
    regroup : (a b c : ℕ) → a * (b * c) ≡ a * b * c
    regroup a b c = omega arith

    turned : (a b c d : ℕ) → a * (b * d * c) ≡ a * (b * c) * d
    turned a b c d = omega arith

-- what is no less by more is no less
pub no_less : (v_num v_den best_num best_den across own left right more : ℕ) → left ≡ v_num * across → right ≡ best_num * own → right ≤ more → more * v_den ≤ left * best_den → best_num * (v_den * own) ≤ v_num * across * best_den
no_less v_num v_den best_num best_den across own left right more el er up h =
    let m = mul-le-mul_right v_den up in
    let l = ap (λ z. z * best_den) el in
    let r = ap (λ z. z * v_den) er in
    omega (arith, m, l, r, h)

-- the digits of a product whose divisor was written with a power of two apart
pub digits_of_product : (v_num v_den across own num part twos by lead k : ℕ) → num ≡ v_num * across → part * 2 ^ twos ≡ v_den → by ≡ own → IsLeading num (part * by) lead k → IsLeading (v_num * across) (v_den * own) lead (k + twos)
digits_of_product v_num v_den across own num part twos by lead k en e eb h =
    let of_num = subst (λ z. IsLeading z (part * by) lead k) en h in
    let of_own = subst (λ z. IsLeading (v_num * across) (part * z) lead k) eb of_num in
    moved_on (v_num * across) part own twos v_den lead k e of_own

-- what was found over a power of two is the number rounded down
pub rounded_found : (n d lead places : ℕ) (found : Option Fraction) → IsLeading n d lead places → IfSome found (IsLowestTerms lead (2 ^ places)) → IfSome found (IsRoundedDown n d)
rounded_found n d lead places (Some f) h lowest = record { lead = lead; places = places; leading = h; lowest = lowest }
rounded_found n d lead places None h lowest = tt
