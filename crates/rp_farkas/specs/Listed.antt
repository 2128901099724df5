-- A program read from lists, A by row and then by column (this project's own form).
use Rattle.std.specs.Prelude.{ℕ, ◌+◌, ◌*◌, ℤ, pos, List, slice_index_or}
use Rattle.rp_farkas.specs.LinearProgram.{LinearProgram}

-- `a` lists the entries of A by row and then by column, `b` the right sides and `c` the objective.
abbrev pub listed_program : ℕ → ℕ → List ℤ → List ℤ → List ℤ → LinearProgram
listed_program rows cols a b c = record {
  rows = rows;
  cols = cols;
  a = λ i j. slice_index_or a (i * cols + j) (pos 0);
  b = λ i. slice_index_or b i (pos 0);
  c = λ j. slice_index_or c j (pos 0);
}
