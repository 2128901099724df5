-- The critical cost efficiency index (Afriat 1973, "On a System of Inequalities in Demand Analysis").
use Rattle.std.specs.Prelude.{◌≡◌, ◌≢◌, ℕ, ◌*◌, ◌<◌, ◌≤◌, List, []}
use Rattle.rp_evidence.specs.Garp.{HasSomeViolation, MeetsGarpAt, ProvesOfPreference}
use Rattle.rp_evidence.specs.Preference.{IsLevel, IsStrictAt, IsWeakAt}
use Rattle.rp_evidence.specs.Ranks.{OrderStrictSteps}
use Rattle.rp_evidence.specs.Walk.{IsClosedWalk, HasStep}
use Rattle.rp_evidence.specs.declared.efficiency.Efficiency.{Efficiency}

-- Some walk is a violation at the level num/den.
abbrev pub FailsGarpAt : ℕ → (ℕ → ℕ → ℕ) → ℕ → ℕ → Type 0
FailsGarpAt n c num den = HasSomeViolation n (IsWeakAt c num den) (IsStrictAt c num den)

-- Some walk is a violation.
abbrev pub FailsGarp : ℕ → (ℕ → ℕ → ℕ) → Type 0
FailsGarp n c = FailsGarpAt n c 1 1

-- num/den is the index: it is above 0 and at most 1, at every level below it the axiom holds, and at every level
-- above it, up to 1, a violation exists. The index is attained where the axiom holds at it too.
pub record IsEfficiencyIndex (n : ℕ) (c : ℕ → ℕ → ℕ) (num den : ℕ) : Type 0 where
  pub level : IsLevel num den
  pub holds_below : (p q : ℕ) → IsLevel p q → p * den < num * q → MeetsGarpAt n c p q
  pub fails_above : (p q : ℕ) → IsLevel p q → num * q < p * den → FailsGarpAt n c p q

-- ---- the same by walks

-- The bundle of t costs exactly the part num/den of what was spent at s, at the prices of s: c(s,t)/c(s,s) is num/den.
abbrev pub IsRatio : (ℕ → ℕ → ℕ) → ℕ → ℕ → ℕ → ℕ → Type 0
IsRatio c num den s t = den * c s t ≡ num * c s s

-- On the steps of this closed walk, from s to t, the greatest of the ratios c(s,t)/c(s,s) is num/den: none is more,
-- and one is equal.
pub record HasGreatestRatio (n : ℕ) (c : ℕ → ℕ → ℕ) (num den : ℕ) (walk : List ℕ) : Type 0 where
  pub none_more : IsClosedWalk n (IsWeakAt c num den) walk
  pub one_equal : HasStep (IsRatio c num den) walk

-- Each closed walk has a greatest ratio on its steps; num/den is the least of these ratios.
pub record IsLeastGreatestRatio (n : ℕ) (c : ℕ → ℕ → ℕ) (num den : ℕ) : Type 0 where
  pub positive : 0 < den
  pub reached : (walk : List ℕ) × HasGreatestRatio n c num den walk
  pub least : (p q : ℕ) (walk : List ℕ) → 0 < q → HasGreatestRatio n c p q walk → num * q ≤ p * den

-- ---- evidence

-- At the level 1 the walk is empty; at every other it is closed and its steps are weak at it.
pub record BoundsFromAbove (n : ℕ) (c : ℕ → ℕ → ℕ) (num den : ℕ) (walk : List ℕ) : Type 0 where
  pub none_at_one : num ≡ den → walk ≡ []
  pub closed_below_one : num ≢ den → IsClosedWalk n (IsWeakAt c num den) walk

-- The level is the index. Ranks that order the strict steps at it show that the axiom holds at every smaller level, a
-- closed walk of weak steps at it that every greater level has a violation, and the last part whether the index is
-- attained.
pub record ProvesEfficiency (n : ℕ) (c : ℕ → ℕ → ℕ) (evidence : Efficiency) : Type 0 where
  pub index : IsEfficiencyIndex n c evidence.level.num evidence.level.den
  pub below : OrderStrictSteps n c evidence.level.num evidence.level.den evidence.below
  pub above : BoundsFromAbove n c evidence.level.num evidence.level.den evidence.above
  pub at : ProvesOfPreference n (IsWeakAt c evidence.level.num evidence.level.den)
      (IsStrictAt c evidence.level.num evidence.level.den) evidence.at
