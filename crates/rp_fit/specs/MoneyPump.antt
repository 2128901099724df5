-- The greatest money pump ratio (Echenique, Lee and Shum 2011, "The Money Pump as a Measure of Revealed Preference
-- Violations", Journal of Political Economy). `c s t` is what the bundle of observation t costs at the prices of s.
use Rattle.std.specs.Prelude.{◌≡◌, ℕ, ◌+◌, ◌*◌, ◌≤◌, ℤ, pos, ◌+ℤ◌, ◌-ℤ◌, ◌*ℤ◌, ◌≤ℤ◌, List, [], ◌∷◌}
use Rattle.rp_evidence.specs.Preference.{IsWeak}
use Rattle.rp_evidence.specs.Walk.{IsClosedWalk}

-- What is gained at a step from s to t: what was spent at s, less what the bundle of t costs at the prices of s.
abbrev pub gain : (ℕ → ℕ → ℕ) → ℕ → ℕ → ℤ
gain c s t = pos (c s s) -ℤ pos (c s t)

-- The sum of the gains over the step from s to the first of the list, and so on.
abbrev pub gain_from : (ℕ → ℕ → ℕ) → ℕ → List ℕ → ℤ
gain_from c s [] = pos 0
gain_from c s (t ∷ rest) = gain c s t +ℤ gain_from c t rest

-- The sum of the gains over the steps of a walk.
abbrev pub walk_gain : (ℕ → ℕ → ℕ) → List ℕ → ℤ
walk_gain c [] = pos 0
walk_gain c (s ∷ rest) = gain_from c s rest

-- What was spent where the steps begin, from s on.
abbrev pub spent_from : (ℕ → ℕ → ℕ) → ℕ → List ℕ → ℕ
spent_from c s [] = 0
spent_from c s (t ∷ rest) = c s s + spent_from c t rest

-- What was spent where the steps of a walk begin.
abbrev pub walk_spent : (ℕ → ℕ → ℕ) → List ℕ → ℕ
walk_spent c [] = 0
walk_spent c (s ∷ rest) = spent_from c s rest

-- The ratio of a walk is num/den: its gains are that part of what was spent.
abbrev pub HasPumpRatio : (ℕ → ℕ → ℕ) → ℕ → ℕ → List ℕ → Type 0
HasPumpRatio c num den walk = walk_gain c walk *ℤ pos den ≡ pos (num * walk_spent c walk)

-- The ratio of a walk is at most num/den.
abbrev pub PumpsAtMost : (ℕ → ℕ → ℕ) → ℕ → ℕ → List ℕ → Type 0
PumpsAtMost c num den walk = (walk_gain c walk *ℤ pos den) ≤ℤ pos (num * walk_spent c walk)

-- num/den is the greatest ratio of all closed walks of weak steps, however long: one has it, and none has more.
pub record IsPumpIndex (n : ℕ) (c : ℕ → ℕ → ℕ) (num den : ℕ) : Type 0 where
  pub positive : 1 ≤ den
  pub reached : (walk : List ℕ) × IsClosedWalk n (IsWeak c) walk × HasPumpRatio c num den walk
  pub greatest : (walk : List ℕ) → IsClosedWalk n (IsWeak c) walk → PumpsAtMost c num den walk
