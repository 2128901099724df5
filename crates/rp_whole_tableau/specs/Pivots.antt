-- Pivots on whole numbers over one denominator, the last pivot (Edmonds 1967; Bareiss 1968).
use Rattle.std.specs.Prelude.{ℤ, ℕ, ◌≡◌, ◌≢◌, ◌<◌, ◌^◌, pos, neg_ℤ, ◌*ℤ◌, ◌-ℤ◌, if◌then◌else◌, List, [], ◌∷◌, zero, suc, length, get_or, Vec}
use Rattle.std.specs.Int.RustNames.{unsigned_abs}
use Rattle.std.specs.declared.alloc.Global.{Global}
use Rattle.rp_two_words.specs.Words.{value_of}
use Rattle.rp_whole_tableau.specs.declared.signed.Signed.{Signed}

-- The whole number that a sign and two words stand for.
abbrev pub number_of : Signed → ℤ
number_of n = if n.negative then neg_ℤ (pos (value_of n.size)) else pos (value_of n.size)

-- The width of an entry: below 2^127 in size.
abbrev pub FitsEntry : ℤ → Type 0
FitsEntry z = unsigned_abs z < 2 ^ 127

-- No whole number within the width gives this number where the denominator multiplies it.
abbrev pub HasNoQuotientBy : ℕ → ℤ → Type 0
HasNoQuotientBy den number = (entry : ℤ) → FitsEntry entry → entry *ℤ pos den ≢ number

-- The number at a place of a row or a column; 0 past its end.
abbrev pub number_at : List ℤ → ℕ → ℤ
number_at numbers place = get_or numbers place (pos 0)

-- Row i.
abbrev pub row_of : List (Vec ℤ Global) → ℕ → List ℤ
row_of [] i = []
row_of (row ∷ rows) zero = row.items
row_of (row ∷ rows) (suc i) = row_of rows i

-- The entry in row i and column j.
abbrev pub entry_in : List (Vec ℤ Global) → ℕ → ℕ → ℤ
entry_in rows i j = number_at (row_of rows i) j

-- A column: its entry in each row.
pub record IsColumnAt (rows : List (Vec ℤ Global)) (j : ℕ) (column : List ℤ) : Type 0 where
  pub count : length column ≡ length rows
  pub each : (i : ℕ) → i < length rows → number_at column i ≡ entry_in rows i j

-- An entry after a pivot, times the denominator before it: times the pivot, less what its row has in the pivot's column
-- times what the pivot's row has in its own.
abbrev pub crossed : ℤ → ℤ → ℤ → ℤ → ℤ
crossed pivot entry factor across = entry *ℤ pivot -ℤ factor *ℤ across

-- A row after a pivot, each entry exact. `factor` is what the row has in the pivot's column, `across` the pivot's row.
pub record IsRowRenewed (den : ℕ) (pivot factor : ℤ) (across before after : List ℤ) : Type 0 where
  pub as_long : length after ≡ length before
  pub exact : (j : ℕ) → j < length before
      → number_at after j *ℤ pos den ≡ crossed pivot (number_at before j) factor (number_at across j)

-- Some entry of the row is no whole number within the width after the pivot.
abbrev pub PassesWidth : ℕ → ℤ → ℤ → List ℤ → List ℤ → Type 0
PassesWidth den pivot factor across before =
    (j : ℕ) × (j < length before) × HasNoQuotientBy den (crossed pivot (number_at before j) factor (number_at across j))

-- The rows after the pivot in row r and a column, which has its entry in each row: that of row r is the pivot. Row r
-- stays, and the pivot is the denominator from then on.
pub record IsPivotIn (den : ℕ) (rows : List (Vec ℤ Global)) (column : List ℤ) (r next_den : ℕ)
    (next : List (Vec ℤ Global)) : Type 0 where
  pub den_is : pos next_den ≡ number_at column r
  pub count : length next ≡ length rows
  pub others : (i : ℕ) → i < length rows → i ≢ r
      → IsRowRenewed den (number_at column r) (number_at column i) (row_of rows r) (row_of rows i) (row_of next i)
  pub own : row_of next r ≡ row_of rows r

-- Some entry is no whole number within the width after that pivot.
abbrev pub PivotPasses : ℕ → List (Vec ℤ Global) → List ℤ → ℕ → Type 0
PivotPasses den rows column r =
    (i : ℕ) × (i < length rows) × (i ≢ r)
    × PassesWidth den (number_at column r) (number_at column i) (row_of rows r) (row_of rows i)
