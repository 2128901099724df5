-- For the proofs alone: what evidence by ranks is. No public clause cites these words.
use Rattle.std.specs.Prelude.{◌≡◌, ◌<◌, ◌⊎◌, ◌==◌, ℕ, false, List, [], length, slice_index, slice_index_or}
use Rattle.std.specs.List.{list_any}
use Rattle.rp_check_levels.specs.StepsFailure.{IsStepAt}
use Rattle.rp_evidence.specs.Preference.{IsStrict}

-- u is s or a cheaper bundle at its prices, and of the bundles t below an end that are cheaper than u each has a rank
-- below that of s.
pub record IsCheapestUpTo (n : ℕ) (c : ℕ → ℕ → ℕ) (ranks : List ℕ) (end s u : ℕ) : Type 0 where
  pub observed : u < n
  pub cheaper : (u ≡ s) ⊎ IsStrict c s u
  pub falls : (t : ℕ) → t < end → c s t < c s u → slice_index ranks t < slice_index ranks s

-- The same of all bundles.
abbrev pub IsCheapestRising : ℕ → (ℕ → ℕ → ℕ) → List ℕ → ℕ → ℕ → Type 0
IsCheapestRising n c ranks s u = IsCheapestUpTo n c ranks n s u

-- For each observation below an end that bundle, and nothing more.
pub record AreCheapestBelow (n : ℕ) (c : ℕ → ℕ → ℕ) (ranks : List ℕ) (end : ℕ) (at : List ℕ) : Type 0 where
  pub one_each : length at ≡ end
  pub each : (s : ℕ) → s < end → IsCheapestRising n c ranks s (slice_index at s)

-- Observations to which strict steps of s lead, in increasing order and below an end, with each such step below the end
-- along which the rank does not fall.
pub record AreRisingUpTo (n : ℕ) (c : ℕ → ℕ → ℕ) (ranks : List ℕ) (end s : ℕ) (row : List ℕ) : Type 0 where
  pub steps : (k : ℕ) → k < length row → IsStepAt n c s row k
  pub below : (k : ℕ) → k < length row → slice_index row k < end
  pub falls : (t : ℕ) → t < end → IsStrict c s t → list_any (λ u. u == t) row ≡ false → slice_index ranks t < slice_index ranks s

-- The same of all steps.
abbrev pub AreRisingSteps : ℕ → (ℕ → ℕ → ℕ) → List ℕ → ℕ → List ℕ → Type 0
AreRisingSteps n c ranks s row = AreRisingUpTo n c ranks n s row

-- For each observation below an end those steps, and nothing more.
pub record AreRisingBelow (n : ℕ) (c : ℕ → ℕ → ℕ) (ranks : List ℕ) (end : ℕ) (rows : List (List ℕ)) : Type 0 where
  pub one_each : length rows ≡ end
  pub each : (s : ℕ) → s < end → AreRisingSteps n c ranks s (slice_index_or rows s [])
