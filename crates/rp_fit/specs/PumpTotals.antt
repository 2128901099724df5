-- Least totals of walks at a ratio: what was spent times the ratio, less what is gained (after Dinkelbach 1967, "On
-- Nonlinear Fractional Programming").
use Rattle.std.specs.Prelude.{◌≡◌, ℕ, ◌*◌, ◌==◌, ℤ, pos, ◌+ℤ◌, ◌-ℤ◌, ◌*ℤ◌, ◌≤ℤ◌, List, [], ◌∷◌, if◌then◌else◌}
use Rattle.rp_evidence.specs.Preference.{IsWeak}
use Rattle.rp_evidence.specs.Walk.{IsWalk}
use Rattle.rp_fit.specs.MoneyPump.{gain}

-- At the ratio num/den, times den: that part of what was spent at s, less the gain of a step from s to t.
abbrev pub excess : (ℕ → ℕ → ℕ) → ℕ → ℕ → ℕ → ℕ → ℤ
excess c num den s t = pos (num * c s s) -ℤ (gain c s t *ℤ pos den)

-- What a step adds: nothing from an observation to itself.
abbrev pub step_total : (ℕ → ℕ → ℕ) → ℕ → ℕ → ℕ → ℕ → ℤ
step_total c num den s t = if s == t then pos 0 else excess c num den s t

-- The total over the step from s to the first of the list, and so on.
abbrev pub total_from : (ℕ → ℕ → ℕ) → ℕ → ℕ → ℕ → List ℕ → ℤ
total_from c num den s [] = pos 0
total_from c num den s (t ∷ rest) = step_total c num den s t +ℤ total_from c num den t rest

-- The total over the steps of a walk.
abbrev pub walk_total : (ℕ → ℕ → ℕ) → ℕ → ℕ → List ℕ → ℤ
walk_total c num den [] = pos 0
walk_total c num den (s ∷ rest) = total_from c num den s rest

-- The number x is the least total of all walks of weak steps that end at s.
pub record IsLeastPumpTotal (n : ℕ) (c : ℕ → ℕ → ℕ) (num den s : ℕ) (x : ℤ) : Type 0 where
  pub reached : (t : ℕ) × (walk : List ℕ) × IsWalk n (IsWeak c) t s walk × (walk_total c num den walk ≡ x)
  pub lowest : (t : ℕ) (walk : List ℕ) → IsWalk n (IsWeak c) t s walk → x ≤ℤ walk_total c num den walk
