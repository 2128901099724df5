-- Lowest terms of amounts, and quotients that are rounded up.
use Rattle.std.proofs.Common.{◌≡◌, ◌<◌, ◌≤◌, ◌+◌, ◌-◌, ◌*◌, ◌/◌, ◌^◌, ◌↔◌, ℕ, arith, inl, inr, subst}
use Rattle.std.proofs.Math.Nat.{div-le_self, le-div_iff_mul-le, one-le-pow, pow-le-pow_right}
use Rattle.std.proofs.lemmas.Bool.{cases_lt}
use Rattle.std.specs.Int.{IsGcd}
use Rattle.rp_num.specs.Fraction.{Fraction, IsLowestTerms}
use Rattle.rp_num.proofs.Coprime.{IsGcd-exists}
use Rattle.rp_num.proofs.Lowest.{IsLowestTerms-divided, same_IsLowestTerms}

-- lowest terms have no greater parts
pub lowest_small : (n d : ℕ) (f : Fraction) → 1 ≤ d → IsLowestTerms n d f → (f.num ≤ n) × (f.den ≤ d)
lowest_small n d f positive lowest =
    let g = IsGcd-exists n d in
    let same = same_IsLowestTerms n d _ f positive (IsLowestTerms-divided n d g.0 positive g.1) lowest in
    subst (λ (h : Fraction). (h.num ≤ n) × (h.den ≤ d)) same (div-le_self n g.0, div-le_self d g.0)

-- a quotient that is rounded up is at most a number exactly where what is divided is at most its multiple
pub rounded_up : (n d c : ℕ) → 0 < d → ((n + (d - 1)) / d ≤ c) ↔ (n ≤ c * d)
rounded_up n d c positive = (to, from)
  where
    next : (c + 1) * d ≡ c * d + d
    next = omega arith

    to : (n + (d - 1)) / d ≤ c → n ≤ c * d
    to at_most = elim (cases_lt (c * d) n) [
      | inl less ↦ let past : c + 1 ≤ (n + (d - 1)) / d = (le-div_iff_mul-le {k = d} {x = c + 1} {y = n + (d - 1)} positive).1 (omega (arith, next, less, positive)) in absurd (omega (arith, past, at_most))
      | inr fine ↦ fine
    ]

    from : n ≤ c * d → (n + (d - 1)) / d ≤ c
    from fine = elim (cases_lt c ((n + (d - 1)) / d)) [
      | inl less ↦ absurd (omega (arith, (le-div_iff_mul-le {k = d} {x = c + 1} {y = n + (d - 1)} positive).0 (omega (arith, less)), next, fine, positive))
      | inr at_most ↦ at_most
    ]

-- a small power of ten
pub ten_parts : (n places : ℕ) → places ≤ 12 → n ≡ 10 ^ places → (1 ≤ n) × (n < 2 ^ 40)
ten_parts n places few is =
    let most : 10 ^ places ≤ 10 ^ 12 = pow-le-pow_right {n = 10} (omega arith) {i = places} {j = 12} few in
    (omega (arith, is, one-le-pow places 10 (omega arith)), omega (arith, is, most))

-- a scaled number that is divided by the common divisor with its scale
pub scaled_lowest : (num den scale power g : ℕ) → scale ≡ power → 1 ≤ den * scale → IsGcd num (den * scale) g → IsLowestTerms num (den * power) (record { num = num / g; den = den * scale / g })
scaled_lowest num den scale power g is some greatest =
    subst (λ (k : ℕ). IsLowestTerms num (den * k) (record { num = num / g; den = den * scale / g })) is (IsLowestTerms-divided num (den * scale) g some greatest)
