-- Numbers within their widths, and the sums of the code.
use borrow.Author.Differences.{up, down}
use mir.Syntax.{w128}
use mir.Val.{of_z, to_z}
use Rattle.std.proofs.Common.{◌≡◌, ℕ, ◌+◌, ◌^◌, ◌≤◌, arith}
use Rattle.std.proofs.lemmas.Int.{ints, to_z-of_z}
use Rattle.std.specs.Prelude.{ℤ, pos, negsuc, ◌+ℤ◌, ◌-ℤ◌, ◌*ℤ◌, FitsSigned}
use Rattle.rp_evidence.specs.StandardNumbers.{FitsUtility}

is_signed : (z : ℤ) → up z ≤ down z + 2 ^ 121 → down z ≤ up z + 2 ^ 121 → FitsSigned w128 z
is_signed (pos m) a b = record { sfits = omega (arith, ints) }
is_signed (negsuc m) a b = record { sfits = omega (arith, ints) }

pub utility_is_signed : (z : ℤ) → FitsUtility z → FitsSigned w128 z
utility_is_signed z h = is_signed z (omega (arith, ints, h.0, h.1)) (omega (arith, ints, h.0, h.1))

-- the bound of the code, where its parts are what they stand for
pub bound_same : (x y : ℤ) (k a b c d : ℕ) → x ≡ y → a ≡ c → b ≡ d → x +ℤ (pos k *ℤ (pos a -ℤ pos b)) ≡ y +ℤ (pos k *ℤ (pos c -ℤ pos d))
bound_same x y k a b c d e f g = λ i. e i +ℤ (pos k *ℤ (pos (f i) -ℤ pos (g i)))

-- the difference of two utilities, as the code has it
pub difference_same : (x y : ℤ) → FitsUtility x → FitsUtility y → to_z w128 (of_z w128 (to_z w128 (of_z w128 x) -ℤ to_z w128 (of_z w128 y))) ≡ x -ℤ y
difference_same x y f g =
    rw (to_z-of_z w128 x (utility_is_signed x f), to_z-of_z w128 y (utility_is_signed y g))
    (to_z-of_z w128 (x -ℤ y) (is_signed (x -ℤ y) (omega (arith, ints, f.0, f.1, g.0, g.1)) (omega (arith, ints, f.0, f.1, g.0, g.1))))
