-- Walks over the observations 0, .., n - 1 by the steps of a relation (Varian 1982: chains of revealed preference).
use Rattle.std.specs.Prelude.{◌≡◌, ◌<◌, ◌≤◌, ◌⊎◌, ℕ, List, [], ◌∷◌, length}

-- The steps of a walk that may go from every observation to every observation.
abbrev pub AnyStep : ℕ → ℕ → Type 0
AnyStep s t = Unit {0}

-- From s the listed observations, each by a step from the one before it, lead to t.
abbrev pub LeadsTo : ℕ → (ℕ → ℕ → Type 0) → ℕ → ℕ → List ℕ → Type 0
LeadsTo n step s t [] = (s < n) × (s ≡ t)
LeadsTo n step s t (x ∷ rest) = (s < n) × step s x × LeadsTo n step x t rest

-- A walk from s to t: a list of observations that begins with s and ends with t, with a step from each entry to the
-- next. It has one step fewer than entries.
abbrev pub IsWalk : ℕ → (ℕ → ℕ → Type 0) → ℕ → ℕ → List ℕ → Type 0
IsWalk n step s t [] = ⊥
IsWalk n step s t (x ∷ rest) = (x ≡ s) × LeadsTo n step x t rest

-- s reaches t: a walk of one or more steps, however many, leads from s to t.
abbrev pub Reaches : ℕ → (ℕ → ℕ → Type 0) → ℕ → ℕ → Type 0
Reaches n step s t = (walk : List ℕ) × IsWalk n step s t walk × (1 < length walk)

-- A walk of one or more steps from s to t such that no other has fewer steps.
pub record IsShortestWalk (n : ℕ) (step : ℕ → ℕ → Type 0) (s t : ℕ) (walk : List ℕ) : Type 0 where
  pub leads : IsWalk n step s t walk
  pub has_step : 1 < length walk
  pub fewest : (other : List ℕ) → IsWalk n step s t other → 1 < length other → length walk ≤ length other

-- A closed walk: it has at least one step and ends where it begins.
abbrev pub IsClosedWalk : ℕ → (ℕ → ℕ → Type 0) → List ℕ → Type 0
IsClosedWalk n step walk = (s : ℕ) × IsWalk n step s s walk × (1 < length walk)

-- Some entry of the list, s being the one before its first, stands in the relation to the next.
abbrev pub HasStepFrom : (ℕ → ℕ → Type 0) → ℕ → List ℕ → Type 0
HasStepFrom step s [] = ⊥
HasStepFrom step s (x ∷ rest) = step s x ⊎ HasStepFrom step x rest

-- Some entry of the list stands in the relation to the next one.
abbrev pub HasStep : (ℕ → ℕ → Type 0) → List ℕ → Type 0
HasStep step [] = ⊥
HasStep step (x ∷ rest) = HasStepFrom step x rest
