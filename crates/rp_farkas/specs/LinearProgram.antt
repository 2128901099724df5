-- Linear programs in the standard form of linear programming (Dantzig, "Linear Programming and Extensions", 1963).
use Rattle.std.specs.Prelude.{ℕ, ℤ}

-- The program: greatest c·y over all y ≥ 0 with A y ≤ b. Row i of A has the entries `a i 0`, `a i 1` and so on;
-- what the functions give at or past `rows` and `cols` belongs to no program.
pub record LinearProgram : Type 0 where
  pub rows : ℕ
  pub cols : ℕ
  pub a : ℕ → ℕ → ℤ
  pub b : ℕ → ℤ
  pub c : ℕ → ℤ
