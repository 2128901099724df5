-- The sizes that the programs of this suite have, and the width of its evidence (this project's own).
use Rattle.std.specs.Prelude.{ℕ, ◌^◌, ◌<◌, ◌≤◌, pos, ◌≤ℤ◌}
use Rattle.std.specs.Int.RustNames.{unsigned_abs}
use Rattle.rp_farkas.specs.LinearProgram.{LinearProgram}

-- The most rows, the most columns, and the largest entry in absolute value.
abbrev pub most_rows : ℕ
most_rows = 64

abbrev pub most_columns : ℕ
most_columns = 8192

abbrev pub largest_entry : ℕ
largest_entry = 2 ^ 51

-- A numerator or a denominator of evidence is at most 2^63 - 1.
abbrev pub FitsEvidence : ℕ → Type 0
FitsEvidence n = n < 2 ^ 63

-- At most so many rows and columns, no entry of A, b or c past the largest, and no negative right side.
pub record IsWithinLimits (p : LinearProgram) : Type 0 where
  pub rows_at_most : p.rows ≤ most_rows
  pub cols_at_most : p.cols ≤ most_columns
  pub a_bounded : (i j : ℕ) → i < p.rows → j < p.cols → unsigned_abs (p.a i j) ≤ largest_entry
  pub b_bounded : (i : ℕ) → i < p.rows → unsigned_abs (p.b i) ≤ largest_entry
  pub c_bounded : (j : ℕ) → j < p.cols → unsigned_abs (p.c j) ≤ largest_entry
  pub b_not_negative : (i : ℕ) → i < p.rows → pos 0 ≤ℤ p.b i
