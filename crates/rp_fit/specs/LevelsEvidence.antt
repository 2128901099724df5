-- What accepted evidence on levels of the observations' own proves (the index: Varian 1990; Halevy, Persitz and Zrill
-- 2018).
use Rattle.std.specs.Prelude.{◌*◌, ◌^◌, ℕ, slice_index}
use Rattle.rp_fit.specs.Levels.{AreBelow, AreLevels, IndexIsAtLeast, IndexIsAtMost, MeetsGarpAtLevels, lack_parts, lack_sum}
use Rattle.rp_fit.specs.WeightedWalks.{weight_of_all}
use Rattle.rp_fit.specs.declared.levels.Lack.{Lack}
use Rattle.rp_fit.specs.declared.levels.Lack.TheVariants.{Mean, Squares}
use Rattle.rp_fit.specs.declared.levels.LevelsPart.{LevelsPart}

-- The power to which what a level lacks of 1 is taken.
abbrev pub power_of : Lack → ℕ
power_of Mean = 1
power_of Squares = 2

-- The level of s is num/den: the part of what was spent at s that the bundle of `at` s costs there.
abbrev pub level_num : (ℕ → ℕ → ℕ) → LevelsPart → ℕ → ℕ
level_num c part s = c s (slice_index part.at s)

abbrev pub level_den : (ℕ → ℕ → ℕ) → ℕ → ℕ
level_den c s = c s s

-- The levels are levels; wherever each observation is held to less than its level, the axiom holds; so the index is at
-- most what they lack in the mean, as an exact fraction. It is at least the weights of the walks over their denominator,
-- 2^40 and the number of observations.
pub record ProvesLevels (n : ℕ) (c : ℕ → ℕ → ℕ) (part : LevelsPart) : Type 0 where
  pub levels : AreLevels n (level_num c part) (level_den c)
  pub holds_below : (num den : ℕ → ℕ) → AreBelow n num den (level_num c part) (level_den c) → MeetsGarpAtLevels n c num den
  pub at_most : IndexIsAtMost (power_of part.lack) n c
      (lack_sum (power_of part.lack) n (level_num c part) (level_den c)) (lack_parts (power_of part.lack) n (level_den c))
  pub at_least : IndexIsAtLeast (power_of part.lack) n c (weight_of_all part.walks) (part.den * 2 ^ 40 * n)
