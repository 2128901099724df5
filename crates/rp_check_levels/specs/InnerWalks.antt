-- For the proofs alone: walks by their places. No public clause cites these words.
use Rattle.std.specs.Prelude.{◌≡◌, ◌<◌, ◌≤◌, ◌+◌, ◌-◌, ℕ, IsTrue, List, length, slice_index}
use Rattle.rp_check_levels.specs.Loads.{loads}
use Rattle.rp_check_levels.specs.declared.measure.Measure.{Measure}
use Rattle.rp_evidence.specs.Preference.{IsStrict}

-- Each entry is an observation.
abbrev pub AreObserved : ℕ → List ℕ → Type 0
AreObserved n walk = (k : ℕ) → k < length walk → slice_index walk k < n

-- Each step is strict.
abbrev pub StepsAreStrict : (ℕ → ℕ → ℕ) → List ℕ → Type 0
StepsAreStrict c walk = (k : ℕ) → k < length walk - 1 → IsStrict c (slice_index walk k) (slice_index walk (k + 1))

-- A closed walk of strict steps, no more of them than observations.
pub record ClosesStrictly (n : ℕ) (c : ℕ → ℕ → ℕ) (walk : List ℕ) : Type 0 where
  pub some : 2 ≤ length walk
  pub few : length walk ≤ n + 1
  pub observed : AreObserved n walk
  pub strict : StepsAreStrict c walk
  pub ends : slice_index walk 0 ≡ slice_index walk (length walk - 1)

-- Some step of the walk loads the step from s to t, or the level of s by the bundle of t.
abbrev pub LoadsAtSome : Measure → (ℕ → ℕ → ℕ) → ℕ → ℕ → List ℕ → Type 0
LoadsAtSome measure c s t walk =
    (k : ℕ) × (k < length walk - 1) × IsTrue (loads measure c s t (slice_index walk k) (slice_index walk (k + 1)))
