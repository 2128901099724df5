-- A grid as contracts see it: its rows in order, and the number of columns, which is the length of each row.
use Rattle.std.specs.Prelude.{◌≡◌, ℕ, ◌<◌, List, [], length, get_or, slice_set, replicate, refl}
use Rattle.std.specs.Coded.{Coded, code_by, coded×, coded_list, coded_ℕ}
use Rattle.std.specs.List.{refill}

pub record Rows (X : Type 0) : Type 0 where
  pub rows : List (List X)
  pub cols : ℕ

module _ {X : Type 0} where
  abbrev pub rows_code : Coded X → Coded (Rows X)
  rows_code c = code_by (List (List X) × ℕ) (coded× (coded_list (coded_list c)) coded_ℕ) (λ g. (g.rows, g.cols))
      (λ p. record { rows = p.0; cols = p.1 }) (λ _. refl)

  -- Row r.
  abbrev pub row_of : Rows X → ℕ → List X
  row_of g r = get_or g.rows r []

  -- Each row has the length that the grid has columns.
  abbrev pub AreEqual : Rows X → Type 0
  AreEqual g = (r : ℕ) → r < length g.rows → length (row_of g r) ≡ g.cols

  -- Each element of each row is x.
  abbrev pub filled : ℕ → ℕ → X → Rows X
  filled rows cols x = record { rows = replicate rows (replicate cols x); cols = cols }

  -- The grid in which row r is xs and every other row stays.
  abbrev pub with_row : Rows X → ℕ → List X → Rows X
  with_row g r xs = record { rows = slice_set g.rows r xs; cols = g.cols }

  -- The grid in which the element of row r and column c is x and every other stays.
  abbrev pub with_cell : Rows X → ℕ → ℕ → X → Rows X
  with_cell g r c x = with_row g r (slice_set (row_of g r) c x)

  -- The grid in which rows a and b have changed places.
  abbrev pub exchanged : Rows X → ℕ → ℕ → Rows X
  exchanged g a b = with_row (with_row g a (row_of g b)) b (row_of g a)

  -- The row as it was written; a row keeps its length.
  abbrev pub written : Rows X → ℕ → List X → List X
  written g r xs = refill g.cols (row_of g r) xs
