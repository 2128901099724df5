-- Each index is one number: two that meet its definition bound each other.
use Rattle.std.proofs.Common.{◌≡◌, ◌<◌, ◌≤◌, ◌*◌, ℕ, zero, suc, List, [], ◌∷◌, ap, arith}
use Rattle.std.proofs.Math.Nat.{le_of_mul-le-mul_right, mul-le-mul_left}
use Rattle.rp_table.specs.Sums.{sum_below}
use Rattle.rp_evidence.specs.Walk.{AnyStep, IsClosedWalk}
use Rattle.rp_evidence.proofs.CountLists.{number_is_one}
use Rattle.rp_fit.specs.Kept.{IsHoutmanMaksIndex}
use Rattle.rp_fit.specs.QuasilinearLevel.{IsQuasilinearLevel}
use Rattle.rp_fit.specs.Steps.{IsLeastStepsCost}
use Rattle.rp_fit.specs.Violations.{IsNumberOfPairs}
use Rattle.rp_fit.specs.WalkSums.{next_sum, spent_sum, steps_sum}

-- ---- pairs

same_sums : (n : ℕ) (f g : ℕ → ℕ) → ((s : ℕ) → s < n → f s ≡ g s) → sum_below n f ≡ sum_below n g
same_sums zero f g same = omega arith
same_sums (suc n) f g same =
    let a = same_sums n f g (λ s l. same s (omega arith)) in
    let b = same n (omega arith) in
    omega arith

pub pairs_have_one_number : (n : ℕ) (relation : ℕ → ℕ → Type 0) (j k : ℕ) → IsNumberOfPairs n relation j → IsNumberOfPairs n relation k → j ≡ k
pairs_have_one_number n relation j k p q =
    let e = same_sums n p.seconds q.seconds (λ s l. number_is_one n (relation s) (p.seconds s) (q.seconds s) (p.each s l) (q.each s l)) in
    omega (arith, e, p.sum, q.sum)

-- ---- sets and steps

pub index_is_one : (n : ℕ) (c : ℕ → ℕ → ℕ) (j k : ℕ) → IsHoutmanMaksIndex n c j → IsHoutmanMaksIndex n c k → j ≡ k
index_is_one n c j k p q =
    let a = q.greatest p.reached.0 p.reached.1 p.reached.2 in
    let b = p.greatest q.reached.0 q.reached.1 q.reached.2 in
    omega (arith, a, b, p.reached.3, q.reached.3)

pub cost_is_one : (n : ℕ) (c : ℕ → ℕ → ℕ) (j k : ℕ) → IsLeastStepsCost n c j → IsLeastStepsCost n c k → j ≡ k
cost_is_one n c j k p q =
    let a = q.least p.reached.0 p.reached.1 in
    let b = p.least q.reached.0 q.reached.1 in
    omega (arith, a, b, p.reached.2, q.reached.2)

-- ---- levels

spent_from_positive : (n : ℕ) (c : ℕ → ℕ → ℕ) → ((s : ℕ) → s < n → 0 < c s s) → (t s : ℕ) (rest : List ℕ) → t < n → 0 < steps_sum (λ a b. c a a) t (s ∷ rest)
spent_from_positive n c positive t s rest l = let h = positive t l in omega (arith, h)

pub spent_positive : (n : ℕ) (c : ℕ → ℕ → ℕ) → ((s : ℕ) → s < n → 0 < c s s) → (walk : List ℕ) → IsClosedWalk n AnyStep walk → 0 < spent_sum c walk
spent_positive n c positive [] w = absurd w.1
spent_positive n c positive (t ∷ []) w = absurd (omega (arith, w.2))
spent_positive n c positive (t ∷ s ∷ rest) w = spent_from_positive n c positive t s rest w.1.1.0

-- the level num/den is reached on a walk, and num'/den' is at most its quotient
at_most : (num den num' den' spent next : ℕ) → 0 < spent → num * spent ≡ den * next → num' * spent ≤ den' * next → num' * den ≤ num * den'
at_most num den num' den' spent next positive e l =
    let a : den * (num' * spent) ≤ den * (den' * next) = mul-le-mul_left den l in
    let b : den' * (num * spent) ≡ den' * (den * next) = ap (λ x. den' * x) e in
    le_of_mul-le-mul_right {k = spent} (omega arith) positive

pub levels_are_equal : (n num den num' den' : ℕ) (c : ℕ → ℕ → ℕ) → ((s : ℕ) → s < n → 0 < c s s) → IsQuasilinearLevel n c num den → IsQuasilinearLevel n c num' den' → num * den' ≡ num' * den
levels_are_equal n num den num' den' c positive p q =
    let a = at_most num den num' den' (spent_sum c p.reached.0) (next_sum c p.reached.0) (spent_positive n c positive p.reached.0 p.reached.1) p.reached.2 (q.least p.reached.0 p.reached.1) in
    let b = at_most num' den' num den (spent_sum c q.reached.0) (next_sum c q.reached.0) (spent_positive n c positive q.reached.0 q.reached.1) q.reached.2 (p.least q.reached.0 q.reached.1) in
    omega (arith, a, b)
