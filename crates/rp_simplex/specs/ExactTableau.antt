-- Simplex tableaus over whole numbers without bound (after Dantzig 1963).
use Rattle.std.specs.Prelude.{ℕ, ◌+◌, ℤ}
use Rattle.rp_farkas.specs.LinearProgram.{LinearProgram}

-- A tableau of a program: the entry in row i and column j stands for `at i j / den`. Row `rows` is the objective row.
-- Column 0 has the right sides, then come the slacks and then the program's own columns (after Dantzig 1963, with the
-- denominator written once). `basis i` is the basic column of row i.
pub record ExactTableau : Type 0 where
  pub den : ℕ
  pub at : ℕ → ℕ → ℤ
  pub basis : ℕ → ℕ

-- The number of columns of the tableaus of a program.
abbrev pub width_of : LinearProgram → ℕ
width_of p = 1 + p.rows + p.cols
