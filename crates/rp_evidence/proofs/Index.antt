-- The efficiency index: what shows that a level is it, what it excludes, and that there is only one.
use Rattle.std.proofs.Common.{◌≡◌, ◌<◌, ◌≤◌, ◌+◌, ◌*◌, inl, inr, ℕ, List, [], ◌∷◌, refl, arith}
use Rattle.std.proofs.Math.Nat.{le_of_mul-le-mul_left, lt_of_mul-lt-mul_left, mul-le-mul_left, mul-lt-mul_of_pos_left}
use Rattle.std.proofs.lemmas.Bool.{cases_lt, cases_order}
use Rattle.rp_evidence.specs.Efficiency.{IsEfficiencyIndex, IsRatio}
use Rattle.rp_evidence.specs.Garp.{MeetsGarpAt}
use Rattle.rp_evidence.specs.Preference.{IsLevel, IsStrictAt, IsWeakAt}
use Rattle.rp_evidence.specs.Walk.{IsClosedWalk, LeadsTo, HasStep, HasStepFrom}
use Rattle.rp_evidence.proofs.Levels.{weak_cycle_violates, weak_rises}
use Rattle.rp_evidence.proofs.Ratios.{greatest_ratio, greatest_within, ratio_then_less}
use Rattle.rp_evidence.proofs.Walks.{walks_by_weaker}

-- no closed walk of weak steps at any ratio c(u,v)/c(u,u) below num/den
abbrev pub NoLowerCycle : ℕ → (ℕ → ℕ → ℕ) → ℕ → ℕ → Type 0
NoLowerCycle n c num den =
    (u v : ℕ) → u < n → v < n → c u v * den < num * c u u → (walk : List ℕ) → ¬ IsClosedWalk n (IsWeakAt c (c u v) (c u u)) walk

-- a number between two others
module _ (a b p q : ℕ) (less : a * q < p * b) where
  below_between : a * (b + q) < (a + p) * b
  below_between = omega (arith, less)

  above_between : (a + p) * q < p * (b + q)
  above_between = omega (arith, less)

-- a closed walk of weak steps at one level is one at a greater level
pub closed_rises : (n num den num' den' : ℕ) (c : ℕ → ℕ → ℕ) (walk : List ℕ) → 0 < den → num * den' ≤ num' * den → IsClosedWalk n (IsWeakAt c num den) walk → IsClosedWalk n (IsWeakAt c num' den') walk
closed_rises n num den num' den' c walk d l h =
    (h.0, walks_by_weaker n (IsWeakAt c num den) (IsWeakAt c num' den') (λ s t a b k. weak_rises num den num' den' (c s t) (c s s) d l k) h.0 h.0 walk h.1, h.2)

module _ (n : ℕ) (c : ℕ → ℕ → ℕ) (positive : (s : ℕ) → s < n → 0 < c s s) where
  -- below the level no walk violates
  meets_below : (num den p q : ℕ) → NoLowerCycle n c num den → IsLevel p q → p * den < num * q → MeetsGarpAt n c p q
  meets_below num den p q none level less walk v =
      let g = greatest_ratio n c positive (IsWeakAt c p q) walk v.0 in
      let within = greatest_within n c positive (c g.0 g.1) (c g.0 g.0) p q walk v.0 g.4.one_equal in
      none g.0 g.1 g.2 g.3 (ratio_then_less (c g.0 g.1) (c g.0 g.0) p q num den (positive g.0 g.2) within less) walk g.4.none_more

  pub index_by_cycle : (num den : ℕ) (walk : List ℕ) → IsLevel num den → IsClosedWalk n (IsWeakAt c num den) walk → NoLowerCycle n c num den → IsEfficiencyIndex n c num den
  index_by_cycle num den walk level closed none = record {
    level = level;
    holds_below = λ p q at_level less. meets_below num den p q none at_level less;
    fails_above = λ p q at_level more. (walk, weak_cycle_violates n num den p q c walk positive more closed);
  }

  -- below the index no closed walk of weak steps exists
  pub no_cycle_below : (num den p q : ℕ) → IsEfficiencyIndex n c num den → 0 < q → p * den < num * q → (walk : List ℕ) → ¬ IsClosedWalk n (IsWeakAt c p q) walk
  no_cycle_below num den p q index pos less walk closed =
      let lower = below_between p q num den less in
      let upper = above_between p q num den less in
      let top : q * num ≤ q * den = mul-le-mul_left q index.level.1 in
      let small : p < q = lt_of_mul-lt-mul_left den (omega arith) in
      index.holds_below (p + num) (q + den) (omega (arith, index.level.0), omega (arith, index.level.1)) upper walk
      (weak_cycle_violates n p q (p + num) (q + den) c walk positive lower closed)

  -- at the index no closed walk of strict steps exists
  pub no_strict_cycle : (num den : ℕ) → IsEfficiencyIndex n c num den → (walk : List ℕ) → ¬ IsClosedWalk n (IsStrictAt c num den) walk
  no_strict_cycle num den index walk closed =
      let g = greatest_ratio n c positive (IsStrictAt c num den) walk closed in
      no_cycle_below num den (c g.0 g.1) (c g.0 g.0) index (positive g.0 g.2)
      (below_from (c g.0 g.1) (c g.0 g.0) (positive g.0 g.2) walk closed g.4.one_equal) walk g.4.none_more
    where
      below_step : (p q s t : ℕ) → 0 < q → s < n → IsStrictAt c num den s t → IsRatio c p q s t → p * den < num * q
      below_step p q s t pos s_in l e =
          let k : q * (den * c s t) < q * (num * c s s) = mul-lt-mul_of_pos_left l pos in
          let j : den * (q * c s t) ≡ den * (p * c s s) = rw e refl in
          lt_of_mul-lt-mul_left (c s s) (omega arith)

      below_on : (p q s t : ℕ) (w : List ℕ) → 0 < q → LeadsTo n (IsStrictAt c num den) s t w → HasStepFrom (IsRatio c p q) s w → p * den < num * q
      below_on p q s t [] pos l h = absurd h
      below_on p q s t (x ∷ w) pos l (inl e) = below_step p q s x pos l.0 l.1 e
      below_on p q s t (x ∷ w) pos l (inr h) = below_on p q x t w pos l.2 h

      below_from : (p q : ℕ) → 0 < q → (walk : List ℕ) → IsClosedWalk n (IsStrictAt c num den) walk → HasStep (IsRatio c p q) walk → p * den < num * q
      below_from p q pos [] l h = absurd h
      below_from p q pos (x ∷ w) l h = below_on p q x l.0 w pos l.1.1 h

-- a level with a closed walk of weak steps is not below the index
pub index_at_most : (n num den p q : ℕ) (c : ℕ → ℕ → ℕ) (walk : List ℕ) → ((s : ℕ) → s < n → 0 < c s s) → IsEfficiencyIndex n c num den → 0 < q → IsClosedWalk n (IsWeakAt c p q) walk → num * q ≤ p * den
index_at_most n num den p q c walk positive index pos closed = elim (cases_lt (p * den) (num * q)) [
  | inl less ↦ absurd (no_cycle_below n c positive num den p q index pos less walk closed)
  | inr most ↦ most
]

-- one number is one index
pub index_same : (n num den num' den' : ℕ) (c : ℕ → ℕ → ℕ) → 0 < den' → num' * den ≡ num * den' → IsEfficiencyIndex n c num den → IsEfficiencyIndex n c num' den'
index_same n num den num' den' c pos same index =
    let den_pos : 0 < den = omega (arith, index.level.0, index.level.1) in
    let num_pos : den * 0 < den * num' = omega (arith, mul-lt-mul_of_pos_left {k = den'} index.level.0 pos) in
    let top : den * num' ≤ den * den' = omega (arith, mul-le-mul_left den' index.level.1) in
    record {
      level = (lt_of_mul-lt-mul_left den num_pos, le_of_mul-le-mul_left {k = den} top den_pos);
      holds_below = λ p q level less. index.holds_below p q level (below_same p q less);
      fails_above = λ p q level more. index.fails_above p q level (above_same p q more);
    }
  where
    below_same : (p q : ℕ) → p * den' < num' * q → p * den < num * q
    below_same p q l =
        let k : den * (p * den') < den * (num' * q) = mul-lt-mul_of_pos_left l (omega (arith, index.level.0, index.level.1)) in
        let j : q * (num' * den) ≡ q * (num * den') = rw same refl in
        lt_of_mul-lt-mul_left den' (omega arith)

    above_same : (p q : ℕ) → num' * q < p * den' → num * q < p * den
    above_same p q l =
        let k : den * (num' * q) < den * (p * den') = mul-lt-mul_of_pos_left l (omega (arith, index.level.0, index.level.1)) in
        let j : q * (num' * den) ≡ q * (num * den') = rw same refl in
        lt_of_mul-lt-mul_left den' (omega arith)

-- two indices are one number: else a level between them holds and fails
pub index_is_one : (n a b p q : ℕ) (c : ℕ → ℕ → ℕ) → IsEfficiencyIndex n c a b → IsEfficiencyIndex n c p q → a * q ≡ p * b
index_is_one n a b p q c h k = elim (cases_order (a * q) (p * b)) [
  | inl e ↦ e
  | inr (inl less) ↦ absurd (apart a b p q h k less)
  | inr (inr less) ↦ absurd (apart p q a b k h less)
]
  where
    apart : (a b p q : ℕ) → IsEfficiencyIndex n c a b → IsEfficiencyIndex n c p q → a * q < p * b → ⊥
    apart a b p q h k less =
        let level : IsLevel (a + p) (b + q) = (omega (arith, h.level.0), omega (arith, h.level.1, k.level.1)) in
        let fails = h.fails_above (a + p) (b + q) level (below_between a b p q less) in
        k.holds_below (a + p) (b + q) level (above_between a b p q less) fails.0 fails.1
