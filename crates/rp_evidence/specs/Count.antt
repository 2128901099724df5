-- How many observations an observation stands above, itself among them (this program's own ranks).
use Rattle.std.specs.Prelude.{◌≡◌, ◌<◌, ◌⊎◌, ℕ, List, length, slice_index}
use Rattle.rp_evidence.specs.Enumeration.{Enumerates}
use Rattle.rp_evidence.specs.Walk.{Reaches}

-- k is the number of those below n of which P holds: the list of them has length k.
abbrev pub IsNumberOf : ℕ → (ℕ → Type 0) → ℕ → Type 0
IsNumberOf n P k = (those : List ℕ) × Enumerates n P those × (length those ≡ k)

-- k is the count of s: how many observations are s or are reached from s.
abbrev pub IsCount : ℕ → (ℕ → ℕ → Type 0) → ℕ → ℕ → Type 0
IsCount n step s k = IsNumberOf n (λ t. (t ≡ s) ⊎ Reaches n step s t) k

-- The list has the count of each observation.
pub record AreCounts (n : ℕ) (step : ℕ → ℕ → Type 0) (counts : List ℕ) : Type 0 where
  pub one_each : length counts ≡ n
  pub each : (s : ℕ) → s < n → IsCount n step s (slice_index counts s)
