-- Signed results of calls, read back from their bits.
use Rattle.std.proofs.Common.{◌≡◌, ◌≢◌, ◌<◌, ◌^◌, ℤ, pos, ◌<ℤ◌, ◌≤ℤ◌, true, false, sym, ◌∙◌, ap, subst, arith}
use Rattle.std.specs.Int.{w64, w128}
use Rattle.std.proofs.lemmas.Int.{ints, to_z-of_z}
use lib.Signed.{mag, le_z}
use mir.Val.{to_z, of_z}

pub back64 : (r : ℤ) → mag r < 2 ^ 63 → to_z w64 (of_z w64 r) ≡ r
back64 r fits = to_z-of_z w64 r (record { sfits = fits })

pub back128 : (r : ℤ) → mag r < 2 ^ 127 → to_z w128 (of_z w128 r) ≡ r
back128 r fits = to_z-of_z w128 r (record { sfits = fits })

pub same_bits : (a b : ℤ) → mag a < 2 ^ 127 → mag b < 2 ^ 127 → of_z w128 a ≡ of_z w128 b → a ≡ b
same_bits a b fits_a fits_b e = sym (back128 a fits_a) ∙ ap (to_z w128) e ∙ back128 b fits_b

pub other_bits : (a b : ℤ) → mag a < 2 ^ 127 → mag b < 2 ^ 127 → (of_z w128 a ≡ of_z w128 b → ⊥) → to_z w128 (of_z w128 a) ≢ to_z w128 (of_z w128 b)
other_bits a b fits_a fits_b ne e = ne (ap (of_z w128) (sym (back128 a fits_a) ∙ e ∙ back128 b fits_b))

pub at_most_zero : (r v : ℤ) → mag r < 2 ^ 63 → r ≡ v → le_z (to_z w64 (of_z w64 r)) (pos 0) ≡ true → v ≤ℤ pos 0
at_most_zero r v fits e h =
    let read : le_z r (pos 0) ≡ true = subst (λ z. le_z z (pos 0) ≡ true) (back64 r fits) h in
    omega (arith, ints)

pub above_zero : (r v : ℤ) → mag r < 2 ^ 63 → r ≡ v → le_z (to_z w64 (of_z w64 r)) (pos 0) ≡ false → pos 0 <ℤ v
above_zero r v fits e h =
    let read : le_z r (pos 0) ≡ false = subst (λ z. le_z z (pos 0) ≡ false) (back64 r fits) h in
    omega (arith, ints)
