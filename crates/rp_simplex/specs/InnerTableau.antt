-- For the proofs alone: ties, distinct basic columns and room. No public clause cites these words.
use Rattle.std.specs.Prelude.{ℕ, ◌≡◌, ◌≢◌, ◌<◌, pos, ◌*ℤ◌, ◌<ℤ◌, ◌≤◌, [], Option, MatchOption, Vec, vec_capacity}
use Rattle.rp_simplex.specs.Choice.{IsLeaving, IsUnbounded}
use Rattle.rp_simplex.specs.ExactTableau.{ExactTableau}

-- No two rows have one ratio to their entries in column c.
abbrev pub HasNoTies : ℕ → ℕ → ExactTableau → ℕ → Type 0
HasNoTies rows width t c = (i r : ℕ) → i < rows → r < rows → i ≢ r → pos 0 <ℤ t.at i c
    → ((j : ℕ) → j < width → t.at i c *ℤ t.at r j ≡ t.at r c *ℤ t.at i j) → ⊥

-- The row that would leave among the first n, or none where none of them has a positive entry in column c.
abbrev pub LeavesBelow : ℕ → ℕ → ExactTableau → ℕ → Option ℕ → Type 0
LeavesBelow n width t c best = MatchOption best (IsUnbounded n t c) (λ r. IsLeaving n width t c r)

-- No two rows have one basic column.
abbrev pub HasDistinctBasis : ℕ → ExactTableau → Type 0
HasDistinctBasis rows t = (i k : ℕ) → i < rows → k < rows → t.basis i ≡ t.basis k → i ≡ k

-- The list is empty and takes n elements with the memory that it has.
pub record HasRoom {X Z : Type 0} (v : Vec X Z) (n : ℕ) : Type 0 where
  pub empty : v.items ≡ []
  pub room : n ≤ vec_capacity v
