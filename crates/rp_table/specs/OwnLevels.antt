-- Levels of single observations: the part of its expenditure that an observation counts as, where it may have been
-- recorded with error (Varian 1990, "Goodness-of-fit in optimizing models": a vector of efficiency indices). They stand
-- in thousandths.
use Rattle.std.specs.Prelude.{◌≡◌, ℕ, ◌*◌, ◌≤◌, ◌⊎◌, List, [], ◌∷◌, length, All, slice_index}
use Rattle.rp_limits.specs.declared.table.TheConstants.{LEVEL_SCALE}

-- a level is above 0 and at most the whole
abbrev pub IsOwnLevel : ℕ → Type 0
IsOwnLevel level = (1 ≤ level) × (level ≤ LEVEL_SCALE)

-- n observations have no levels, or one each
abbrev pub AreOwnLevels : ℕ → List ℕ → Type 0
AreOwnLevels n levels = (levels ≡ []) ⊎ ((length levels ≡ n) × All IsOwnLevel levels)

-- what a level is a part of, and a cost is multiplied by: 1 where there are no levels
abbrev pub level_scale : List ℕ → ℕ
level_scale [] = 1
level_scale (level ∷ levels) = LEVEL_SCALE

-- what the bundle of observation s may cost at its own prices by its level, times that scale; `c s s` is what it costs
abbrev pub own_by_level : List ℕ → (ℕ → ℕ → ℕ) → ℕ → ℕ
own_by_level [] c s = c s s
own_by_level (level ∷ levels) c s = slice_index (level ∷ levels) s * c s s
