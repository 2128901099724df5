-- The elements of a grid of numbers (this project's own form).
use Rattle.std.specs.Prelude.{ℕ, ℤ, pos, get_or}
use Rattle.rp_grid.specs.Rows.{Rows, row_of}

-- The element in row i and column j.
abbrev pub cell : Rows ℤ → ℕ → ℕ → ℤ
cell g i j = get_or (row_of g i) j (pos 0)
