-- The evidence that is given for the efficiency index (Afriat 1973): which fraction, which ranks, and which walks.
use Rattle.std.specs.Prelude.{◌≡◌, ◌≢◌, ◌<◌, ◌^◌, [], ℕ, List}
use Rattle.rp_num.specs.Fraction.{IsLowestTerms}
use Rattle.rp_evidence.specs.Count.{AreCounts}
use Rattle.rp_evidence.specs.Preference.{IsStrictAt, IsWeakAt}
use Rattle.rp_evidence.specs.Walk.{IsShortestWalk, Reaches}
use Rattle.rp_evidence.specs.declared.level.Level.{Level}
use Rattle.rp_evidence.specs.declared.efficiency.Efficiency.{Efficiency}
use Rattle.rp_pref.specs.Violation.{IsVerdictOfPreference}

-- The level is in lowest terms, and its parts are below 2^51, as costs are.
pub record IsLowestLevel (level : Level) : Type 0 where
  pub lowest : IsLowestTerms level.num level.den (record { num = level.num; den = level.den })
  pub small : level.den < 2 ^ 51

-- A walk of fewest steps from s back to itself, s being the first observation that returns to itself.
pub record IsFirstReturn (n : ℕ) (step : ℕ → ℕ → Type 0) (s : ℕ) (walk : List ℕ) : Type 0 where
  pub observation : s < n
  pub none_earlier : (j : ℕ) → j < s → ¬ Reaches n step j j
  pub shortest : IsShortestWalk n step s s walk

-- Empty at the level 1; else a shortest walk of weak steps from an observation back to it, the first that has one.
pub record IsAbove (n : ℕ) (c : ℕ → ℕ → ℕ) (num den : ℕ) (walk : List ℕ) : Type 0 where
  pub none_at_one : num ≡ den → walk ≡ []
  pub return_below_one : num ≢ den → (s : ℕ) × IsFirstReturn n (IsWeakAt c num den) s walk

-- What is given: the index in lowest terms, the counts over the strict steps at it, and over the weak ones where it is
-- attained.
pub record IsEfficiencyVerdict (n : ℕ) (c : ℕ → ℕ → ℕ) (evidence : Efficiency) : Type 0 where
  pub level : IsLowestLevel evidence.level
  pub below : AreCounts n (IsStrictAt c evidence.level.num evidence.level.den) evidence.below
  pub above : IsAbove n c evidence.level.num evidence.level.den evidence.above
  pub at : IsVerdictOfPreference n (IsWeakAt c evidence.level.num evidence.level.den)
      (IsStrictAt c evidence.level.num evidence.level.den) evidence.at
