-- When evidence for the critical cost efficiency index fails (this program's own order of clauses; Afriat 1973).
use Rattle.std.specs.Prelude.{◌≡◌, ◌≢◌, ◌^◌, ◌<◌, ◌⊎◌, ℕ, List, [], ◌∷◌, length}
use Rattle.rp_evidence.specs.Clauses.{Finding, Unless, InOrder}
use Rattle.rp_clauses.specs.GarpFailure.{GarpFails, OrderingFails}
use Rattle.rp_clauses.specs.WalkFailure.{ClosedWalkFails, WeakStepsFail}
use Rattle.rp_evidence.specs.Preference.{IsLevel, IsStrictAt, IsWeakAt}
use Rattle.rp_evidence.specs.declared.efficiency.Efficiency.{Efficiency}
use Rattle.rp_evidence.specs.declared.garp.Garp.{Garp}
use Rattle.rp_evidence.specs.declared.failure.Reason.TheVariants.{Shape, Level}

-- The walk above: none at the level 1, at every other a closed one whose steps are weak at the level.
abbrev pub AboveFails : ℕ → (ℕ → ℕ → ℕ) → ℕ → ℕ → List ℕ → Finding
AboveFails n c num den walk found =
    ((num ≡ den) × Unless (length walk ≡ 0) Shape 1 found)
    ⊎ ((num ≢ den) × InOrder (ClosedWalkFails n walk ∷ WeakStepsFail (IsWeakAt c num den) walk ∷ []) found)

-- The ranks below the level, the walk above it, and the evidence at it.
abbrev pub LevelFails : ℕ → (ℕ → ℕ → ℕ) → ℕ → ℕ → List ℕ → List ℕ → Garp → Finding
LevelFails n c num den below above at = InOrder (
    OrderingFails n (IsStrictAt c num den) below ∷ AboveFails n c num den above
    ∷ GarpFails n (IsWeakAt c num den) (IsStrictAt c num den) at ∷ [])

-- The level, which is taken as it is written, in lowest terms or not; then each part of the evidence.
abbrev pub EfficiencyFails : ℕ → (ℕ → ℕ → ℕ) → Efficiency → Finding
EfficiencyFails n c evidence = InOrder (
    Unless (IsLevel evidence.level.num evidence.level.den × (evidence.level.den < 2 ^ 51)) Level 0
    ∷ LevelFails n c evidence.level.num evidence.level.den evidence.below evidence.above evidence.at
    ∷ [])
