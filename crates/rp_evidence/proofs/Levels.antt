-- Steps at one level and at another.
use Rattle.std.proofs.Common.{◌<◌, ◌≤◌, ◌*◌, ℕ, List, arith}
use Rattle.std.proofs.Math.Nat.{le_of_mul-le-mul_left, lt_of_mul-lt-mul_left, mul-le-mul_left, mul-lt-mul_of_pos_left}
use Rattle.rp_evidence.specs.Garp.{IsViolationAt}
use Rattle.rp_evidence.specs.Preference.{IsStrictAt, IsWeakAt}
use Rattle.rp_evidence.specs.Ranks.{OrderStrictSteps}
use Rattle.rp_evidence.specs.Walk.{IsClosedWalk}
use Rattle.rp_evidence.proofs.Violations.{closed_walk_violates, no_violation_under_ranks, violates_by_weaker}

-- x costs y's part num/den, and num/den is at most num'/den'
pub weak_rises : (num den num' den' x y : ℕ) → 0 < den → num * den' ≤ num' * den → den * x ≤ num * y → den' * x ≤ num' * y
weak_rises num den num' den' x y d l h =
    let a : den' * (den * x) ≤ den' * (num * y) = mul-le-mul_left den' h in
    let b : y * (num * den') ≤ y * (num' * den) = mul-le-mul_left y l in
    le_of_mul-le-mul_left {k = den} (omega arith) d

pub strict_rises : (num den num' den' x y : ℕ) → 0 < den' → num * den' ≤ num' * den → den * x < num * y → den' * x < num' * y
strict_rises num den num' den' x y d l h =
    let a : den' * (den * x) < den' * (num * y) = mul-lt-mul_of_pos_left h d in
    let b : y * (num * den') ≤ y * (num' * den) = mul-le-mul_left y l in
    lt_of_mul-lt-mul_left den (omega arith)

-- what is weak at a level is strict at every greater one
pub weak_is_strict_above : (num den num' den' x y : ℕ) → 0 < y → num * den' < num' * den → den * x ≤ num * y → den' * x < num' * y
weak_is_strict_above num den num' den' x y p l h =
    let a : den' * (den * x) ≤ den' * (num * y) = mul-le-mul_left den' h in
    let b : y * (num * den') < y * (num' * den) = mul-lt-mul_of_pos_left l p in
    lt_of_mul-lt-mul_left den (omega arith)

pub strict_to_weak : (c : ℕ → ℕ → ℕ) (num den s t : ℕ) → IsStrictAt c num den s t → IsWeakAt c num den s t
strict_to_weak c num den s t h = omega arith

pub violation_lasts : (n num den num' den' : ℕ) (c : ℕ → ℕ → ℕ) (walk : List ℕ) → 0 < den → 0 < den' → num * den' ≤ num' * den → IsViolationAt n c num den walk → IsViolationAt n c num' den' walk
violation_lasts n num den num' den' c walk p q l v =
    violates_by_weaker n (IsWeakAt c num den) (IsStrictAt c num den) (IsWeakAt c num' den') (IsStrictAt c num' den')
    (λ s t a b h. weak_rises num den num' den' (c s t) (c s s) p l h)
    (λ s t a b h. strict_rises num den num' den' (c s t) (c s s) q l h)
    walk v

pub weak_cycle_violates : (n num den num' den' : ℕ) (c : ℕ → ℕ → ℕ) (walk : List ℕ) → ((s : ℕ) → s < n → 0 < c s s) → num * den' < num' * den → IsClosedWalk n (IsWeakAt c num den) walk → IsViolationAt n c num' den' walk
weak_cycle_violates n num den num' den' c walk p l h =
    closed_walk_violates n (IsWeakAt c num den) (IsWeakAt c num' den') (IsStrictAt c num' den')
    (λ s t a b k. strict_to_weak c num' den' s t (weak_is_strict_above num den num' den' (c s t) (c s s) (p s a) l k))
    (λ s t a b k. weak_is_strict_above num den num' den' (c s t) (c s s) (p s a) l k)
    walk h

pub ordering_ranks_exclude : (n num den num' den' : ℕ) (c : ℕ → ℕ → ℕ) (ranks walk : List ℕ) → ((s : ℕ) → s < n → 0 < c s s) → num' * den < num * den' → OrderStrictSteps n c num den ranks → ¬ IsViolationAt n c num' den' walk
ordering_ranks_exclude n num den num' den' c ranks walk p l order v =
    no_violation_under_ranks n (IsStrictAt c num den) (IsStrictAt c num den) ranks
    (record {
      one_each = order.one_each;
      weak_never_rises = λ s t a b h. let k = order.step_falls s t a b h in omega arith;
      strict_falls = order.step_falls;
    })
    walk
    (closed_walk_violates n (IsWeakAt c num' den') (IsStrictAt c num den) (IsStrictAt c num den)
    (λ s t a b k. weak_is_strict_above num' den' num den (c s t) (c s s) (p s a) l k)
    (λ s t a b k. weak_is_strict_above num' den' num den (c s t) (c s s) (p s a) l k)
    walk v.0)
