-- Which records of a long file a panel tells of: those of its households, and those that are refused for their ids.
use Rattle.std.specs.Prelude.{◌≡◌, ◌<◌, ◌≤◌, ℕ, ◌+◌, ◌-◌, ◌==◌, if◌then◌else◌, List, [], ◌∷◌, ◌++◌, map}
use Rattle.std.specs.List.{flat_map}
use Rattle.rp_long.specs.Panels.{Panel}

-- the records of the households, one household after the other, and those that are refused, all from 0
abbrev pub told_records : Panel → List ℕ
told_records panel =
    flat_map (λ household. household.records) panel.households ++ map (λ refused. refused.row - 1) panel.unnamed

-- how often a number stands in a list
abbrev pub times_in : ℕ → List ℕ → ℕ
times_in t [] = 0
times_in t (n ∷ numbers) = (if n == t then 1 else 0) + times_in t numbers

-- each number below n stands once in a list, and no other stands there
pub record EachStandsOnce (n : ℕ) (numbers : List ℕ) : Type 0 where
  pub once : (t : ℕ) → t < n → times_in t numbers ≡ 1
  pub no_other : (t : ℕ) → n ≤ t → times_in t numbers ≡ 0
