-- The weak axiom of cost minimisation (Varian 1984): what was used nowhere cost more than inputs that made as much or
-- more.
use Rattle.std.specs.Prelude.{ℕ, ◌<◌, ◌≤◌}

-- of n observations, `cost t s` being what the inputs of s cost at the prices of t, and `y t` the output of t
abbrev pub MeetsCostAxiom : ℕ → (ℕ → ℕ → ℕ) → (ℕ → ℕ) → Type 0
MeetsCostAxiom n cost y = (t s : ℕ) → t < n → s < n → y t ≤ y s → cost t t ≤ cost t s

-- s made as much as t or more, and its inputs cost less at the prices of t
abbrev pub BreaksCostAxiom : (ℕ → ℕ → ℕ) → (ℕ → ℕ) → ℕ → ℕ → Type 0
BreaksCostAxiom cost y t s = (y t ≤ y s) × (cost t s < cost t t)
