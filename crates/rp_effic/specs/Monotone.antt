-- Conditions on places in order that hold, from some place on, at every place (monotone predicates, as of binary
-- search).
use Rattle.std.specs.Prelude.{◌<◌, ◌≤◌, ℕ}

-- Where the condition holds at one of n places, it holds at all later ones.
abbrev pub IsMonotone : ℕ → (ℕ → Type 0) → Type 0
IsMonotone n holds = (i j : ℕ) → i < j → j < n → holds i → holds j

-- The least of n places at which the condition holds, or n where it holds at none.
pub record IsFirstTrue (n : ℕ) (holds : ℕ → Type 0) (place : ℕ) : Type 0 where
  pub within : place ≤ n
  pub none_before : (j : ℕ) → j < place → ¬ holds j
  pub holds_there : place < n → holds place
