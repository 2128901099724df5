-- Ranks of observations, which show that no violation exists (ranks by preference, Varian 1982).
use Rattle.std.specs.Prelude.{◌≡◌, ℕ, ◌<◌, ◌≤◌, List, length, slice_index}
use Rattle.rp_evidence.specs.Preference.{IsStrictAt}

-- The ranks respect a preference: one for each observation, no weak step rises and each strict step falls.
pub record RespectPreference (n : ℕ) (weak strict : ℕ → ℕ → Type 0) (ranks : List ℕ) : Type 0 where
  pub one_each : length ranks ≡ n
  pub weak_never_rises : (s t : ℕ) → s < n → t < n → weak s t → slice_index ranks t ≤ slice_index ranks s
  pub strict_falls : (s t : ℕ) → s < n → t < n → strict s t → slice_index ranks t < slice_index ranks s

-- The ranks order the steps of a relation: one for each observation, and each step falls.
pub record OrderSteps (n : ℕ) (step : ℕ → ℕ → Type 0) (ranks : List ℕ) : Type 0 where
  pub one_each : length ranks ≡ n
  pub step_falls : (s t : ℕ) → s < n → t < n → step s t → slice_index ranks t < slice_index ranks s

-- The ranks order the strict steps of the level num/den.
abbrev pub OrderStrictSteps : ℕ → (ℕ → ℕ → ℕ) → ℕ → ℕ → List ℕ → Type 0
OrderStrictSteps n c num den ranks = OrderSteps n (IsStrictAt c num den) ranks
