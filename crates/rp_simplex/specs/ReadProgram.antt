-- The program that can be read from the columns of tableau 0 (Dantzig 1963), and when two programs are one.
use Rattle.std.specs.Prelude.{ℕ, ◌≡◌, ◌+◌, ◌-◌, ◌<◌, ℤ, neg_ℤ, length}
use Rattle.rp_farkas.specs.LinearProgram.{LinearProgram}
use Rattle.rp_grid.specs.Rows.{Rows}
use Rattle.rp_simplex.specs.Cells.{cell}

-- Each row of the grid is a column of tableau 0: first the right sides; then the slacks, one for each row of tableau 0
-- but the last, and then the program's own columns. The last element of a column is that of the objective, negated.
abbrev pub program_in : Rows ℤ → LinearProgram
program_in g = record {
  rows = g.cols - 1;
  cols = length g.rows - g.cols;
  a = λ i j. cell g (g.cols + j) i;
  b = λ i. cell g 0 i;
  c = λ j. neg_ℤ (cell g (g.cols + j) (g.cols - 1));
}

-- The programs have the same rows and columns, and the same numbers in each place of them.
pub record IsSameProgram (p q : LinearProgram) : Type 0 where
  pub rows : p.rows ≡ q.rows
  pub cols : p.cols ≡ q.cols
  pub a : (i j : ℕ) → i < p.rows → j < p.cols → p.a i j ≡ q.a i j
  pub b : (i : ℕ) → i < p.rows → p.b i ≡ q.b i
  pub c : (j : ℕ) → j < p.cols → p.c j ≡ q.c j
