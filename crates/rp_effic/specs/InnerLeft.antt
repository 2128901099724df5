-- For the proofs alone: observations that are taken away because no step leads from them to one that is left.
-- No public clause cites these words.
use Rattle.std.specs.Prelude.{◌≡◌, ◌<◌, ◌≤◌, ℕ, Bool, true, false, List, IsTrue, length, count_by}
use Rattle.std.specs.Prelude.{slice_index, slice_index_or}
use Rattle.rp_evidence.specs.Walk.{Reaches}

-- s is left.
abbrev pub IsLeft : List Bool → ℕ → Type 0
IsLeft left s = IsTrue (slice_index_or left s false)

-- How many are left.
abbrev pub left_of : List Bool → ℕ
left_of left = count_by (λ b. b) left

-- A step leads from s to an observation that is left.
abbrev pub LeadsToLeft : ℕ → (ℕ → ℕ → Type 0) → List Bool → ℕ → Type 0
LeadsToLeft n step left s = (t : ℕ) × (t < n) × IsLeft left t × step s t

-- No step leads from s to an observation that is left.
abbrev pub LeadsToNoneLeft : ℕ → (ℕ → ℕ → Type 0) → List Bool → ℕ → Type 0
LeadsToNoneLeft n step left s = (t : ℕ) → t < n → step s t → ¬ IsLeft left t

-- Some of n observations is left, or none is.
abbrev pub SomeIsLeft : ℕ → List Bool → Type 0
SomeIsLeft n left = (s : ℕ) × (s < n) × IsLeft left s

abbrev pub NoneIsLeft : ℕ → List Bool → Type 0
NoneIsLeft n left = (s : ℕ) → s < n → ¬ IsLeft left s

-- No observation that was taken away returns to itself, and of each the listed steps before the place where it stands
-- lead to none that is left.
pub record AreLeft (n : ℕ) (step : ℕ → ℕ → Type 0) (starts to : List ℕ) (left : List Bool)
    (at : List ℕ) : Type 0 where
  pub left_each : length left ≡ n
  pub at_each : length at ≡ n
  pub gone : (s : ℕ) → s < n → ¬ IsLeft left s → ¬ Reaches n step s s
  pub passed : (s p : ℕ) → s < n → slice_index starts s ≤ p → p < slice_index at s
      → IsLeft left (slice_index to p) → ¬ step s (slice_index to p)

-- The first observations were looked at once: where none was taken away, each that is left leads to one that is left.
pub record HasLooked (n : ℕ) (step : ℕ → ℕ → Type 0) (end : ℕ) (old new : List Bool)
    (fewer : Bool) : Type 0 where
  pub less : fewer ≡ true → left_of new < left_of old
  pub same : fewer ≡ false → new ≡ old
  pub lead : fewer ≡ false → (s : ℕ) → s < end → IsLeft new s → LeadsToLeft n step new s
