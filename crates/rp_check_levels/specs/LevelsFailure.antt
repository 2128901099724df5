-- When evidence on levels of the observations' own fails (this program's own order of clauses; the index: Varian 1990;
-- Halevy, Persitz and Zrill 2018).
use Rattle.std.specs.Prelude.{◌≡◌, ◌<◌, ◌≤◌, ◌⊎◌, ℕ, List, [], ◌∷◌, length, slice_index}
use Rattle.rp_check_levels.specs.WalksFailure.{LoadsFail, WalksFail}
use Rattle.rp_check_levels.specs.declared.measure.Measure.{Measure}
use Rattle.rp_check_levels.specs.declared.measure.Measure.TheVariants.{Levels, SquaredLevels}
use Rattle.rp_evidence.specs.Clauses.{Finding, FirstUnless, InOrder, Unless}
use Rattle.rp_evidence.specs.Preference.{IsStrict}
use Rattle.rp_evidence.specs.declared.failure.Reason.TheVariants.{Level, Number, Order, Shape}
use Rattle.rp_fit.specs.declared.levels.Lack.{Lack}
use Rattle.rp_fit.specs.declared.levels.Lack.TheVariants.{Mean, Squares}
use Rattle.rp_fit.specs.declared.levels.LevelsPart.{LevelsPart}

-- The level of s is that of s itself, 1, or of an observation whose bundle is cheaper at the prices of s.
abbrev pub IsLevelAt : ℕ → (ℕ → ℕ → ℕ) → List ℕ → ℕ → Type 0
IsLevelAt n c at s = (slice_index at s < n) × ((slice_index at s ≡ s) ⊎ IsStrict c s (slice_index at s))

-- Along each step from s to a bundle that costs less than its level the rank falls.
abbrev pub FallsBelow : ℕ → (ℕ → ℕ → ℕ) → List ℕ → List ℕ → ℕ → Type 0
FallsBelow n c at ranks s = (t : ℕ) → t < n → c s t < c s (slice_index at s)
    → slice_index ranks t < slice_index ranks s

-- A level and a rank for each observation; the levels; ranks that fall along the steps below them.
abbrev pub AtFails : ℕ → (ℕ → ℕ → ℕ) → List ℕ → List ℕ → Finding
AtFails n c at ranks = InOrder (
    Unless (length at ≡ n) Shape 1
    ∷ Unless (length ranks ≡ n) Shape 2
    ∷ FirstUnless n (IsLevelAt n c at) Level
    ∷ FirstUnless n (FallsBelow n c at ranks) Order
    ∷ [])

-- What the walks load.
abbrev pub measure_of : Lack → Measure
measure_of Mean = Levels
measure_of Squares = SquaredLevels

-- A denominator, the levels, the walks, and what they load.
abbrev pub LevelsFail : ℕ → (ℕ → ℕ → ℕ) → LevelsPart → Finding
LevelsFail n c part = InOrder (
    Unless (1 ≤ part.den) Number 0
    ∷ AtFails n c part.at part.ranks
    ∷ WalksFail n c part.walks
    ∷ LoadsFail n c (measure_of part.lack) part.den part.walks
    ∷ [])
