-- Laws of sums over the numbers below a bound.
use Rattle.std.proofs.Common.{◌≡◌, ℕ, zero, suc, ◌+◌, ◌<◌, ◌≤◌, refl, arith, below_more}
use Rattle.rp_table.specs.Sums.{sum_below}

-- a sum of greater terms is greater
pub sum_below-mono : (f h : ℕ → ℕ) (k : ℕ) → ((i : ℕ) → i < k → f i ≤ h i) → sum_below k f ≤ sum_below k h
sum_below-mono f h zero le = omega arith
sum_below-mono f h (suc k) le = omega (arith, sum_below-mono f h k (λ i lt. le i (omega arith)), le k (omega arith))

-- a sum of the same terms is the same
pub sum_below-same : (f h : ℕ → ℕ) (k : ℕ) → ((i : ℕ) → i < k → f i ≡ h i) → sum_below k f ≡ sum_below k h
sum_below-same f h zero same = refl
sum_below-same f h (suc k) same = rw (sum_below-same f h k (λ i lt. same i (omega arith)), same k (omega arith)) refl

-- a sum is at least each of its terms
pub sum_at_least : (f : ℕ → ℕ) (n k : ℕ) → k < n → f k ≤ sum_below n f
sum_at_least f zero k within = absurd (omega arith)
sum_at_least f (suc n) k within =
    below_more (λ (i : ℕ). f i ≤ sum_below n f + f n) n (λ i below. omega (arith, sum_at_least f n i below)) (omega arith) k (omega arith)

-- a sum of nothing is 0
pub sum_none : (f : ℕ → ℕ) (n : ℕ) → ((i : ℕ) → i < n → f i ≡ 0) → sum_below n f ≡ 0
sum_none f zero none = refl
sum_none f (suc n) none = omega (arith, sum_none f n (λ i l. none i (omega (arith, l))), none n (omega arith))
