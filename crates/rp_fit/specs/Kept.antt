-- The most observations that are consistent with each other (Houtman and Maks 1985, "Determining All Maximal Data
-- Subsets Consistent with Revealed Preference").
use Rattle.std.specs.Prelude.{◌≡◌, ◌<◌, ◌≤◌, ℕ, List, Contains, length}
use Rattle.std.specs.List.Sorted.{IsStrictlyIncreasing}
use Rattle.rp_evidence.specs.Garp.{IsViolation}
use Rattle.rp_evidence.specs.Preference.{IsStrict, IsWeak}

-- A set of observations: some of the numbers below n, in increasing order.
pub record IsSetOfObservations (n : ℕ) (set : List ℕ) : Type 0 where
  pub rising : IsStrictlyIncreasing set
  pub observed : (s : ℕ) → Contains set s → s < n

-- The walk goes through observations of the set alone.
abbrev pub LiesWithin : List ℕ → List ℕ → Type 0
LiesWithin set walk = (s : ℕ) → Contains walk s → Contains set s

-- The set is consistent: no closed walk of weak steps within it, however long, has a strict step.
abbrev pub IsConsistent : ℕ → (ℕ → ℕ → ℕ) → List ℕ → Type 0
IsConsistent n c set = (walk : List ℕ) → LiesWithin set walk → ¬ IsViolation n (IsWeak c) (IsStrict c) walk

-- No consistent set has more than this many observations.
abbrev pub NoneKeepsMore : ℕ → (ℕ → ℕ → ℕ) → ℕ → Type 0
NoneKeepsMore n c most =
    (set : List ℕ) → IsSetOfObservations n set → IsConsistent n c set → length set ≤ most

-- k is the index of Houtman and Maks: the number of observations in the largest consistent sets.
pub record IsHoutmanMaksIndex (n : ℕ) (c : ℕ → ℕ → ℕ) (k : ℕ) : Type 0 where
  pub reached : (set : List ℕ) × IsSetOfObservations n set × IsConsistent n c set × (length set ≡ k)
  pub greatest : NoneKeepsMore n c k
