-- For the proofs alone: rows of a grid that are written one element after the other. No public clause cites these
-- words.
use Prim.Native.Nat.{◌∣◌}
use Rattle.std.specs.Prelude.{ℕ, suc, ◌≡◌, ◌≢◌, ◌*◌, ◌^◌, ◌<◌, ◌≤◌, ℤ, pos, ◌*ℤ◌, ◌-ℤ◌, List, Bool, MatchBool}
use Rattle.std.specs.Prelude.{if◌then◌else◌, ◌==◌, length}
use Rattle.std.specs.Int.RustNames.{unsigned_abs}
use Rattle.rp_farkas.specs.LinearProgram.{LinearProgram}
use Rattle.rp_farkas.specs.Limits.{FitsEvidence, largest_entry, most_rows}
use Rattle.rp_grid.specs.Rows.{Rows, AreEqual, row_of}
use Rattle.rp_simplex.specs.Cells.{cell}
use Rattle.rp_simplex.specs.InnerCombined.{AreSmall, dot}
use Rattle.rp_simplex.specs.ExactTableau.{width_of}
use Rattle.rp_simplex.specs.FirstTableau.{first_entry}

-- The first n elements of row i have been written, each as P says; nothing else has changed.
pub record IsRowWritten (old new : Rows ℤ) (i n : ℕ) (P : ℕ → ℤ → Type 0) : Type 0 where
  pub count : length new.rows ≡ length old.rows
  pub cols : new.cols ≡ old.cols
  pub equal : AreEqual new
  pub others : (k : ℕ) → k ≢ i → row_of new k ≡ row_of old k
  pub done : (j : ℕ) → j < n → P j (cell new i j)
  pub left : (j : ℕ) → n ≤ j → cell new i j ≡ cell old i j

-- The number is z divided by d, and within the width.
pub record IsQuotient (z : ℤ) (d : ℕ) (value : ℤ) : Type 0 where
  pub whole : z ≡ value *ℤ pos d
  pub fits : FitsEvidence (unsigned_abs value)

-- The numbers f, divided by d, have been written in row i.
abbrev pub HasDivided : Rows ℤ → Rows ℤ → ℕ → (ℕ → ℤ) → ℕ → Type 0
HasDivided old new i f d = IsRowWritten old new i old.cols (λ j value. IsQuotient (f j) d value)

-- One of the first n numbers passes the width when it is divided by d.
abbrev pub OnePasses : ℕ → (ℕ → ℤ) → ℕ → Type 0
OnePasses n f d = (j : ℕ) × (j < n) × (2 ^ 63 * d ≤ unsigned_abs (f j))

-- The first n numbers are multiples of d.
abbrev pub DividesEach : ℕ → ℕ → (ℕ → ℤ) → Type 0
DividesEach n d f = (s : ℕ) → s < n → d ∣ unsigned_abs (f s)

-- What becomes of row i, into which the numbers f are written, each divided by d: all of them stand there, or one of
-- them passes the width.
abbrev pub DividesRow : Bool → Rows ℤ → Rows ℤ → ℕ → (ℕ → ℤ) → ℕ → Type 0
DividesRow done old new i f d = MatchBool done (HasDivided old new i f d) (OnePasses old.cols f d)

-- The elements of row i are within the width.
abbrev pub FitEvidence : Rows ℤ → ℕ → Type 0
FitEvidence g i = (j : ℕ) → j < g.cols → FitsEvidence (unsigned_abs (cell g i j))

-- Row i times the pivot's entry p, less row r times the factor f.
abbrev pub less_multiple : Rows ℤ → ℕ → ℕ → ℤ → ℤ → ℕ → ℤ
less_multiple g r i p f s = cell g i s *ℤ p -ℤ f *ℤ cell g r s

-- Row i can be cleared with the multiple of row r, the pivot's, that these numbers name: both rows and the numbers are
-- within the width.
pub record CanClear (g : Rows ℤ) (r i : ℕ) (p f : ℤ) (d : ℕ) : Type 0 where
  pub pivot_row : r < length g.rows
  pub row : i < length g.rows
  pub apart : i ≢ r
  pub pivot_fit : FitEvidence g r
  pub fit : FitEvidence g i
  pub pivot : FitsEvidence (unsigned_abs p)
  pub factor : FitsEvidence (unsigned_abs f)
  pub positive : 0 < d
  pub small : d < 2 ^ 127

-- The elements of all rows are within the width.
abbrev pub AllFitEvidence : Rows ℤ → Type 0
AllFitEvidence g = (i : ℕ) → i < length g.rows → FitEvidence g i

-- The first n rows but row r have been changed by the pivot's entry p and their factors f, and divided by d; the
-- others are as they were.
pub record AreRenewed (old new : Rows ℤ) (r : ℕ) (p : ℤ) (f : ℕ → ℤ) (d n : ℕ) : Type 0 where
  pub count : length new.rows ≡ length old.rows
  pub cols : new.cols ≡ old.cols
  pub equal : AreEqual new
  pub done : (i j : ℕ) → i < n → i ≢ r → j < old.cols → IsQuotient (less_multiple old r i p (f i) j) d (cell new i j)
  pub left : (i : ℕ) → n ≤ i → row_of new i ≡ row_of old i
  pub pivot_row : row_of new r ≡ row_of old r

-- d divides each number of all rows but row r after the pivot.
abbrev pub DividesOthers : Rows ℤ → ℕ → ℤ → (ℕ → ℤ) → ℕ → Type 0
DividesOthers g r p f d =
    (i s : ℕ) → i < length g.rows → i ≢ r → s < g.cols → d ∣ unsigned_abs (less_multiple g r i p (f i) s)

-- What becomes of all rows but row r: they are renewed, or one of their numbers passes the width.
abbrev pub RenewsRows : Bool → Rows ℤ → Rows ℤ → ℕ → ℤ → (ℕ → ℤ) → ℕ → Type 0
RenewsRows done old new r p f d = MatchBool done (AreRenewed old new r p f d (length old.rows))
    ((i : ℕ) × (i < length old.rows) × (i ≢ r) × OnePasses old.cols (less_multiple old r i p (f i)) d)

-- The entry that row i of the multipliers makes of a column of tableau 0.
abbrev pub factor : Rows ℤ → List ℤ → ℕ → ℤ
factor m column i = dot m.cols (row_of m i) column

-- These entries of all rows are within the width.
abbrev pub FactorsFit : Rows ℤ → List ℤ → Type 0
FactorsFit m column = (i : ℕ) → i < length m.rows → FitsEvidence (unsigned_abs (factor m column i))

-- What the multipliers m, a column of tableau 0 that is as long as they are wide, the pivot's row r and entry p and a
-- divisor d are when a pivot begins.
pub record CanPivot (m : Rows ℤ) (column : List ℤ) (r : ℕ) (p : ℤ) (d : ℕ) : Type 0 where
  pub same : length column ≡ m.cols
  pub few : m.cols ≤ suc most_rows
  pub column_small : AreSmall largest_entry column
  pub pivot_row : r < length m.rows
  pub pivot : FitsEvidence (unsigned_abs p)
  pub factors_fit : FactorsFit m column
  pub positive : 0 < d

-- The number in row i and place s of the multipliers m after the pivot, before the common divisor is taken out: d was
-- the denominator, p is the pivot's entry in row r, and f is the entry of row i in its column.
abbrev pub moved : Rows ℤ → ℕ → ℕ → ℤ → ℕ → ℤ → ℕ → ℤ
moved m d r p i f s = if i == r then cell m r s *ℤ pos d else less_multiple m r i p f s

-- The numbers f, divided by d, stand in the rows of the grid.
pub record ArePivoted (old new : Rows ℤ) (f : ℕ → ℕ → ℤ) (d : ℕ) : Type 0 where
  pub count : length new.rows ≡ length old.rows
  pub cols : new.cols ≡ old.cols
  pub equal : AreEqual new
  pub done : (i j : ℕ) → i < length old.rows → j < old.cols → IsQuotient (f i j) d (cell new i j)

-- d divides each of the numbers that are to stand in the rows.
abbrev pub DividesAllOf : Rows ℤ → (ℕ → ℕ → ℤ) → ℕ → Type 0
DividesAllOf g f d = (i s : ℕ) → i < length g.rows → s < g.cols → d ∣ unsigned_abs (f i s)

-- What becomes of the rows into which the numbers f are written, each divided by d: all of them stand there, or one of
-- them passes the width.
abbrev pub DividesRows : Bool → Rows ℤ → Rows ℤ → (ℕ → ℕ → ℤ) → ℕ → Type 0
DividesRows done old new f d = MatchBool done (ArePivoted old new f d)
    ((i : ℕ) × (i < length old.rows) × OnePasses old.cols (f i) d)

-- The value is the entry of the first tableau in row i and column j, which is small.
pub record IsFirstEntry (p : LinearProgram) (i j : ℕ) (value : ℤ) : Type 0 where
  pub value_is : value ≡ first_entry p i j
  pub small : unsigned_abs value ≤ largest_entry

-- The entries of the first tableau stand in the grid, column by column.
abbrev pub HasFirstEntries : LinearProgram → Rows ℤ → Type 0
HasFirstEntries p g = (j i : ℕ) → j < width_of p → i ≤ p.rows → IsFirstEntry p i j (cell g j i)
