-- When a whole number is a quotient, and when none is.
use Rattle.std.proofs.Common.{◌≡◌, ◌≢◌, ℕ, ◌+◌, ◌*◌, ◌^◌, ◌<◌, ◌≤◌, ◌⊎◌, add-one, arith, ap, inl, inr}
use Rattle.std.proofs.Math.Nat.{mul-le-mul_right, pow-suc}
use Rattle.std.proofs.lemmas.Bool.{cases_lt}

pub next_power : (k : ℕ) → 2 ^ (k + 1) ≡ 2 ^ k * 2
next_power k = rw add-one (pow-suc 2 k)

-- with a rest there is no quotient
pub no_quotient : (n by q r : ℕ) → n ≡ q * by + r → 0 < r → r < by → (x : ℕ) → x * by ≢ n
no_quotient n by q r e some below x h = by_cases (cases_lt q x)
  where
    by_cases : (q < x) ⊎ (x ≤ q) → ⊥
    by_cases (inl more) =
        let m = mul-le-mul_right {m = q + 1} {n = x} by (omega arith) in
        absurd (omega (arith, m, e, h))
    by_cases (inr less) =
        let m = mul-le-mul_right {m = x} {n = q} by less in
        absurd (omega (arith, m, e, h))

-- after all digits of a word, the quotient and the rest are those of the whole
pub all_taken : (n t left : ℕ) → n * 2 ^ 128 ≡ t * 2 ^ 128 + left → left < 2 ^ 128 → n ≡ t
all_taken n t left e below = omega (arith, e)

-- one digit more
pub digit_more : (n k x y : ℕ) → n * 2 ^ k ≡ x → y ≡ 2 * x → n * 2 ^ (k + 1) ≡ y
digit_more n k x y before twice =
    let e = ap (λ z. n * z) (next_power k) in
    omega (arith, e, before, twice)

pub twice_below : (q r k : ℕ) → q < 2 ^ k → r ≤ 2 * q + 1 → r < 2 ^ (k + 1)
twice_below q r k below le = omega (arith, next_power k)
