-- The sum over a walk, step by step.
use Rattle.std.proofs.Common.{◌≡◌, ℕ, zero, suc, ◌+◌, ◌<◌, ◌≤◌, List, [], ◌∷◌, length, take, slice_index, ◌*◌, ◌^◌, ◌∙◌, ap, arith, add-one, subst, sym}
use Rattle.std.proofs.lemmas.Int.{ints, to_z-of_z}
use Rattle.std.specs.Int.{w128}
use Rattle.std.specs.Int.RustNames.{unsigned_abs}
use Rattle.std.specs.Prelude.{◌+ℤ◌, ℤ}
use lib.Signed.{mag}
use mir.Val.{of_z, to_z}
use Rattle.rp_farkas.proofs.SumSteps.{abs_sum}
use Rattle.rp_evidence.specs.Quasilinear.{step_sum, sum_from, walk_sum}

from_more : (c : ℕ → ℕ → ℕ) (t : ℕ) (rest : List ℕ) (k : ℕ) → k < length rest → sum_from c t (take (suc k) rest) ≡ sum_from c t (take k rest) +ℤ step_sum c (slice_index (t ∷ rest) k) (slice_index (t ∷ rest) (suc k))
from_more c t [] k within = absurd (omega arith)
from_more c t (s ∷ rest) zero within = omega (arith, ints)
from_more c t (s ∷ rest) (suc k) within =
    let e = from_more c s rest k (omega arith) in
    omega (arith, ints, e)

walk_more : (c : ℕ → ℕ → ℕ) (walk : List ℕ) (k : ℕ) → suc k < length walk → walk_sum c (take (suc (suc k)) walk) ≡ walk_sum c (take (suc k) walk) +ℤ step_sum c (slice_index walk k) (slice_index walk (suc k))
walk_more c [] k within = absurd (omega arith)
walk_more c (t ∷ rest) k within = from_more c t rest k (omega arith)

-- one step more of a walk
pub sum_more : (c : ℕ → ℕ → ℕ) (walk : List ℕ) (k : ℕ) → k + 1 < length walk → walk_sum c (take (k + 1 + 1) walk) ≡ walk_sum c (take (k + 1) walk) +ℤ step_sum c (slice_index walk k) (slice_index walk (k + 1))
sum_more c walk k within = rw (add-one, add-one) (walk_more c walk k (omega arith))

-- a turn of the loop: s is the sum so far, a is what the step adds and r their sum
pub sum_kept : (c : ℕ → ℕ → ℕ) (walk : List ℕ) (k : ℕ) (s a r : ℤ) → k + 1 < length walk
    → (s ≡ walk_sum c (take (k + 1) walk)) × (unsigned_abs s ≤ k * 2 ^ 51)
    → a ≡ step_sum c (slice_index walk k) (slice_index walk (k + 1)) → unsigned_abs a ≤ 2 ^ 51
    → mag r < 2 ^ 127 → r ≡ s +ℤ to_z w128 (of_z w128 a) → mag a < 2 ^ 127
    → (to_z w128 (of_z w128 r) ≡ walk_sum c (take (k + 1 + 1) walk)) × (unsigned_abs (to_z w128 (of_z w128 r)) ≤ (k + 1) * 2 ^ 51)
sum_kept c walk k s a r within so_far is small fits_r e fits_a =
    let back : to_z w128 (of_z w128 r) ≡ s +ℤ a = to_z-of_z w128 r (record { sfits = fits_r }) ∙ e ∙ ap (λ x. s +ℤ x) (to_z-of_z w128 a (record { sfits = fits_a })) in
    let P : ℤ → Type 0 = λ x. (x ≡ walk_sum c (take (k + 1 + 1) walk)) × (unsigned_abs x ≤ (k + 1) * 2 ^ 51) in
    let next : s +ℤ a ≡ walk_sum c (take (k + 1 + 1) walk) =
    ap (λ x. x +ℤ a) so_far.0 ∙ ap (λ x. walk_sum c (take (k + 1) walk) +ℤ x) is ∙ sym (sum_more c walk k within) in
    let size : unsigned_abs (s +ℤ a) ≤ (k + 1) * 2 ^ 51 = omega (arith, abs_sum s a, so_far.1) in
    subst P (sym back) (next, size)
