-- Rows of numbers of one width, in one list (this project's own form).
use Rattle.std.specs.Prelude.{ℕ, ◌*◌, ◌/◌, List, length, take, drop}

-- how many rows of that width there are
abbrev pub rows_count : List ℕ → ℕ → ℕ
rows_count numbers width = length numbers / width

-- the i-th row, from 0
abbrev pub row_of : List ℕ → ℕ → ℕ → List ℕ
row_of numbers width i = take width (drop (i * width) numbers)
