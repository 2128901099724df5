-- When weighted walks fail, and what they load (this program's own order of clauses; the walks: Varian 1982).
use Rattle.std.specs.Prelude.{◌≤◌, ◌+◌, ℕ, List, [], ◌∷◌, length, slice_index_or}
use Rattle.rp_check_levels.specs.Loads.{IsWithinLimits}
use Rattle.rp_check_levels.specs.declared.measure.Measure.{Measure}
use Rattle.rp_evidence.specs.Clauses.{Finding, FirstBelow, FirstUnless, InOrder, Unless}
use Rattle.rp_evidence.specs.declared.failure.Reason.TheVariants.{Number, Set, Dual}
use Rattle.rp_fit.specs.WeightedWalks.{IsSimpleStrictWalk}
use Rattle.rp_fit.specs.declared.weighted.WeightedWalk.{WeightedWalk}

-- Walk k, from 0.
abbrev pub walk_at : List WeightedWalk → ℕ → WeightedWalk
walk_at walks k = slice_index_or walks k (record { weight = 0; walk = [] })

-- Walk k: some weight, and a closed walk of strict steps through no observation twice.
abbrev pub WalkFails : ℕ → (ℕ → ℕ → ℕ) → List WeightedWalk → ℕ → Finding
WalkFails n c walks k = InOrder (
    Unless (1 ≤ (walk_at walks k).weight) Number (k + 1)
    ∷ Unless (IsSimpleStrictWalk n c (walk_at walks k).walk) Set (k + 1)
    ∷ [])

-- The walks, each in turn.
abbrev pub WalksFail : ℕ → (ℕ → ℕ → ℕ) → List WeightedWalk → Finding
WalksFail n c walks = FirstBelow (length walks) (WalkFails n c walks)

-- What they load, from each observation in turn.
abbrev pub LoadsFail : ℕ → (ℕ → ℕ → ℕ) → Measure → ℕ → List WeightedWalk → Finding
LoadsFail n c measure den walks = FirstUnless n (IsWithinLimits n c measure den walks) Dual
