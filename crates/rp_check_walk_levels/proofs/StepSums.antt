-- The sum over a walk, step by step.
use Rattle.std.proofs.Common.{◌≡◌, ◌<◌, ◌≤◌, ◌+◌, ◌*◌, ◌^◌, ℕ, zero, suc, List, [], ◌∷◌, length, take, slice_index, ◌∙◌, ap, sym, arith, add-one}
use Rattle.rp_fit.specs.WalkSums.{steps_sum, walk_sum}

from_more : (f : ℕ → ℕ → ℕ) (t : ℕ) (rest : List ℕ) (k : ℕ) → k < length rest → steps_sum f t (take (suc k) rest) ≡ steps_sum f t (take k rest) + f (slice_index (t ∷ rest) k) (slice_index (t ∷ rest) (suc k))
from_more f t [] k within = absurd (omega arith)
from_more f t (s ∷ rest) zero within = omega arith
from_more f t (s ∷ rest) (suc k) within = let e = from_more f s rest k (omega arith) in omega (arith, e)

walk_more : (f : ℕ → ℕ → ℕ) (walk : List ℕ) (k : ℕ) → suc k < length walk → walk_sum f (take (suc (suc k)) walk) ≡ walk_sum f (take (suc k) walk) + f (slice_index walk k) (slice_index walk (suc k))
walk_more f [] k within = absurd (omega arith)
walk_more f (t ∷ rest) k within = from_more f t rest k (omega arith)

sum_more : (f : ℕ → ℕ → ℕ) (walk : List ℕ) (k : ℕ) → k + 1 < length walk → walk_sum f (take (k + 1 + 1) walk) ≡ walk_sum f (take (k + 1) walk) + f (slice_index walk k) (slice_index walk (k + 1))
sum_more f walk k within = rw (add-one, add-one) (walk_more f walk k (omega arith))

-- a turn of the loop: what the step adds, and the new sum
pub sum_kept : (f : ℕ → ℕ → ℕ) (walk : List ℕ) (k sum added new : ℕ) → k + 1 < length walk → (sum ≡ walk_sum f (take (k + 1) walk)) × (sum ≤ k * 2 ^ 51)
    → added ≡ f (slice_index walk k) (slice_index walk (k + 1)) → added ≤ 2 ^ 51 → new ≡ sum + added
    → (new ≡ walk_sum f (take (k + 1 + 1) walk)) × (new ≤ (k + 1) * 2 ^ 51)
sum_kept f walk k sum added new within so_far is small adds =
    let e = sum_more f walk k within in
    (omega (arith, e, so_far.0, is, adds), omega (arith, so_far.1, small, adds))
