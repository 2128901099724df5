-- Dividing by a divisor, with no rest.
use Prim.Native.Nat.{◌∣◌}
use Rattle.std.proofs.Common.{◌≡◌, ℕ, ◌<◌, ◌^◌, ℤ, pos, negsuc, ◌*ℤ◌, ◌<ℤ◌, neg_ℤ, sym, ◌∙◌, ap, subst, arith, FitsSigned}
use Rattle.std.specs.Int.{w64, w128}
use Rattle.std.specs.Int.RustNames.{unsigned_abs, int_div, int_rem}
use Rattle.std.proofs.lemmas.Int.{ints, to_z-of_z, to_z_pos, quot-rem, quot_fits, fits_signed_from_abs}
use Rattle.std.proofs.lemmas.Nat.Gcd.{mod-eq-zero_of_dvd}
use mir.Val.{to_z, of_z}

no_rest : (z : ℤ) (g : ℕ) → g ∣ unsigned_abs z → int_rem z (pos g) ≡ pos 0
no_rest (pos n) g d = ap pos (mod-eq-zero_of_dvd g d)
no_rest (negsuc n) g d = ap (λ k. neg_ℤ (pos k)) (mod-eq-zero_of_dvd g d)

pub divided : (z : ℤ) (g : ℕ) → g ∣ unsigned_abs z → z ≡ int_div z (pos g) *ℤ pos g
divided z g d =
    let rest = no_rest z g d in
    let whole = quot-rem z (pos g) in
    omega (arith, ints, whole, rest)

pub quotient_read : (z : ℤ) (g : ℕ) → 0 < g → g < 2 ^ 127 → g ∣ unsigned_abs z → unsigned_abs z < 2 ^ 127
    → z ≡ to_z w128 (of_z w128 (int_div (to_z w128 (of_z w128 z)) (to_z w128 g))) *ℤ pos g
quotient_read z g positive small d fits =
    let read : to_z w128 (of_z w128 z) ≡ z = to_z-of_z w128 z (fits_signed_from_abs w128 z fits) in
    let divisor : to_z w128 g ≡ pos g = to_z_pos w128 g small in
    let quotient_fits : FitsSigned w128 (int_div z (pos g)) = quot_fits w128 z (pos g) (fits_signed_from_abs w128 z fits) (omega (arith, ints)) in
    divided z g d
    ∙ ap (λ q. q *ℤ pos g) (sym (to_z-of_z w128 (int_div z (pos g)) quotient_fits)
    ∙ ap (λ y. to_z w128 (of_z w128 (int_div y (pos g)))) (sym read)
    ∙ ap (λ y. to_z w128 (of_z w128 (int_div (to_z w128 (of_z w128 z)) y))) (sym divisor))

-- ---- in 64 bits
pub narrow_read : (z d : ℤ) → pos 0 <ℤ d → unsigned_abs d ∣ unsigned_abs z → unsigned_abs z < 2 ^ 63 → FitsSigned w64 d
    → z ≡ to_z w64 (of_z w64 (int_div (to_z w64 (of_z w64 z)) (to_z w64 (of_z w64 d)))) *ℤ d
narrow_read z (negsuc g) above d fits fits_d = absurd (omega (arith, ints))
narrow_read z (pos g) above d fits fits_d =
    let read : to_z w64 (of_z w64 z) ≡ z = to_z-of_z w64 z (fits_signed_from_abs w64 z fits) in
    let divisor : to_z w64 (of_z w64 (pos g)) ≡ pos g = to_z-of_z w64 (pos g) fits_d in
    let quotient_fits : FitsSigned w64 (int_div z (pos g)) = quot_fits w64 z (pos g) (fits_signed_from_abs w64 z fits) (omega (arith, ints)) in
    divided z g d
    ∙ ap (λ q. q *ℤ pos g) (sym (to_z-of_z w64 (int_div z (pos g)) quotient_fits)
    ∙ ap (λ y. to_z w64 (of_z w64 (int_div y (pos g)))) (sym read)
    ∙ ap (λ y. to_z w64 (of_z w64 (int_div (to_z w64 (of_z w64 z)) y))) (sym divisor))

pub narrow_divides : (z : ℤ) (g n : ℕ) → unsigned_abs z < 2 ^ 127 → n ≡ unsigned_abs (to_z w128 (of_z w128 z)) → n < 2 ^ 63 → g < 2 ^ 63 → g ∣ unsigned_abs z
    → unsigned_abs (to_z w64 g) ∣ unsigned_abs (to_z w64 (of_z w64 (to_z w128 (of_z w128 z))))
narrow_divides z g n fits read small small_g d =
    let same : to_z w128 (of_z w128 z) ≡ z = to_z-of_z w128 z (fits_signed_from_abs w128 z fits) in
    let below : unsigned_abs z < 2 ^ 63 = subst (λ k. k < 2 ^ 63) (read ∙ ap unsigned_abs same) small in
    let back : to_z w64 (of_z w64 (to_z w128 (of_z w128 z))) ≡ z = ap (λ y. to_z w64 (of_z w64 y)) same ∙ to_z-of_z w64 z (fits_signed_from_abs w64 z below) in
    subst (λ y. unsigned_abs (to_z w64 g) ∣ unsigned_abs y) (sym back) (subst (λ y. unsigned_abs y ∣ unsigned_abs z) (sym (to_z_pos w64 g small_g)) d)
