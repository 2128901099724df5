-- Closed walks of strict steps with weights, and how much of them goes by which steps (duality of linear programming as
-- in Gale, Kuhn and Tucker 1951).
use Rattle.std.specs.Prelude.{◌≢◌, ◌<◌, ◌≤◌, ◌+◌, ◌-◌, ◌||◌, ℕ, Bool, false, List, [], ◌∷◌, length, slice_index, sum_by}
use Rattle.std.specs.Prelude.{if◌then◌else◌}
use Rattle.rp_evidence.specs.Preference.{IsStrict}
use Rattle.rp_evidence.specs.Walk.{IsClosedWalk}
use Rattle.rp_fit.specs.declared.weighted.WeightedWalk.{WeightedWalk}

-- A closed walk of strict steps that goes through no observation twice: the last entry, which is the first again, aside.
pub record IsSimpleStrictWalk (n : ℕ) (c : ℕ → ℕ → ℕ) (walk : List ℕ) : Type 0 where
  pub few : length walk ≤ n + 1
  pub closed : IsClosedWalk n (IsStrict c) walk
  pub distinct : (i j : ℕ) → i < j → j < length walk - 1 → slice_index walk i ≢ slice_index walk j

-- Some step from s to the first of the list, and so on, is one of these.
abbrev pub goes_from : (ℕ → ℕ → Bool) → ℕ → List ℕ → Bool
goes_from these s [] = false
goes_from these s (x ∷ rest) = these s x || goes_from these x rest

-- Some step of the walk is one of these.
abbrev pub goes_by : (ℕ → ℕ → Bool) → List ℕ → Bool
goes_by these [] = false
goes_by these (x ∷ rest) = goes_from these x rest

-- The weights of the walks of which some step is one of these.
abbrev pub weight_by : (ℕ → ℕ → Bool) → List WeightedWalk → ℕ
weight_by these walks = sum_by (λ each. if goes_by these each.walk then each.weight else 0) walks

-- The weights of all walks.
abbrev pub weight_of_all : List WeightedWalk → ℕ
weight_of_all walks = sum_by (λ each. each.weight) walks
