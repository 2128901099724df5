-- The lexicographic order of rows of whole numbers (Dantzig, Orden and Wolfe 1955).
use Rattle.std.specs.Prelude.{ℕ, ◌≡◌, ◌<◌, ℤ, ◌<ℤ◌}

-- f is less than g at the first of the places below n where they differ.
pub record IsLexLess (n : ℕ) (f g : ℕ → ℤ) : Type 0 where
  pub place : ℕ
  pub in_range : place < n
  pub same_before : (k : ℕ) → k < place → f k ≡ g k
  pub less : f place <ℤ g place
