-- What a grid ends as, once a row of it that was lent has been written.
use Rattle.std.specs.Prelude.{ℕ, List}
use Rattle.std.specs.Borrow.{Fml, RattleType, MutBor, Array, Lends}
use Rattle.rp_grid.specs.Rows.{Rows, with_row, written}
use Rattle.rp_grid.specs.contracts.grid.Grid.{the_row}

-- Row r is the last that was written through the loan, and every other row stays.
abbrev pub lends_row : (R : RattleType) → MutBor (Rows R.Denot) → ℕ → MutBor (List R.Denot) → Fml
lends_row R g r loan = Lends (the_row R) (Array R 0) g loan (λ xs. with_row g.now r (written g.now r xs))
