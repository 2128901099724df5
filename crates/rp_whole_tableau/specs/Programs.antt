-- Programs that take columns, and what pivots make of them (Edmonds 1967; columns that are generated after Gilmore and
-- Gomory 1961).
use Rattle.std.specs.Prelude.{ℤ, ℕ, ◌≡◌, ◌+◌, ◌*◌, ◌^◌, ◌<◌, ◌≤◌, ◌⊎◌, pos, ◌-ℤ◌, ◌<ℤ◌, ◌≤ℤ◌, FitsSigned, if◌then◌else◌, nat_eq, List, [], ◌∷◌, ◌++◌, zero, suc, length, slice_index, slice_set, Vec}
use Rattle.std.specs.Int.{w128}
use Rattle.std.specs.declared.alloc.Global.{Global}
use Rattle.rp_farkas.specs.Total.{total}
use Rattle.rp_farkas.specs.declared.listing.TheConstants.{EVIDENCE_WIDTH}
use Rattle.rp_whole_tableau.specs.Pivots.{IsColumnAt, IsPivotIn, PivotPasses, entry_in, number_at, row_of}
use Rattle.rp_whole_tableau.specs.declared.grown.Grown.{Grown}
use Rattle.rp_whole_tableau.specs.declared.tableau.Tableau.{Tableau}

-- A number that no entry can be: below -2^127, or at least 2^127.
abbrev pub IsPast : ℤ → Type 0
IsPast z = ¬ FitsSigned w128 z

-- The number of the objective row, which comes after the rows of the program.
abbrev pub objective_of : Tableau → ℕ
objective_of t = length t.basis.items

-- How many entries a row has: its right side, and one for each slack.
abbrev pub width_of : Tableau → ℕ
width_of t = length (row_of t.rows.items 0)

-- What the slacks of the first n of these rows have in row i together.
abbrev pub slacks_in : Tableau → ℕ → List ℕ → ℕ → ℤ
slacks_in t i taken n = total n (λ k. entry_in t.rows.items i (1 + slice_index taken k))

-- What a column is worth in row i over the denominator: 1 in the objective row, and nothing in the others.
abbrev pub worth_in : Tableau → ℕ → ℤ
worth_in t i = if nat_eq i (objective_of t) then pos t.den else pos 0

-- The entry in row i of a column that is worth 1 and has 1 in these rows.
abbrev pub entry_of : Tableau → ℕ → List ℕ → ℤ
entry_of t i taken = slacks_in t i taken (length taken) -ℤ worth_in t i

-- What the first of the slacks have together, up to some place, passes the width.
abbrev pub SumPasses : Tableau → ℕ → List ℕ → Type 0
SumPasses t i taken = (n : ℕ) × (n ≤ length taken) × IsPast (slacks_in t i taken n)

-- That, or the entry itself passes the width.
abbrev pub EntryPasses : Tableau → ℕ → List ℕ → Type 0
EntryPasses t i taken = SumPasses t i taken ⊎ IsPast (entry_of t i taken)

-- Some entry of the column passes the width. Past the last row there is none that does.
abbrev pub PassesSomewhere : Tableau → List ℕ → Type 0
PassesSomewhere t taken = (i : ℕ) × EntryPasses t i taken

-- A column that has 1 in these rows, written out: its entry in each row of the tableau.
pub record IsWrittenOut (t : Tableau) (taken : List ℕ) (column : List ℤ) : Type 0 where
  pub count : length column ≡ length t.rows.items
  pub each : (i : ℕ) → i < length t.rows.items → number_at column i ≡ entry_of t i taken

-- The rows of a column, by its number in a list of columns.
abbrev pub rows_in : List (Vec ℕ Global) → ℕ → List ℕ
rows_in [] n = []
rows_in (column ∷ columns) zero = column.items
rows_in (column ∷ columns) (suc n) = rows_in columns n

-- The rows of a column that was added, by its number.
abbrev pub rows_of : Grown → ℕ → List ℕ
rows_of g n = rows_in g.columns.items n

-- Row i of n rows at the beginning: the side of the row, and its own slack.
pub record IsFirstRow (side i n : ℕ) (row : List ℤ) : Type 0 where
  pub count : length row ≡ n + 1
  pub side_is : number_at row 0 ≡ pos side
  pub slacks : (s : ℕ) → s < n → number_at row (s + 1) ≡ (if nat_eq s i then pos 1 else pos 0)

-- A program at the beginning: a row for each side, over the denominator 1, with its slack in the basis; an objective row
-- of zeros; and no columns.
pub record IsFirst (sides : List ℕ) (g : Grown) : Type 0 where
  pub den_is : g.tableau.den ≡ 1
  pub count : length g.tableau.rows.items ≡ length sides + 1
  pub rows : (i : ℕ) → i < length sides
      → IsFirstRow (slice_index sides i) i (length sides) (row_of g.tableau.rows.items i)
  pub objective : (j : ℕ) → entry_in g.tableau.rows.items (length sides) j ≡ pos 0
  pub many : length g.tableau.basis.items ≡ length sides
  pub basis : (i : ℕ) → i < length sides → slice_index g.tableau.basis.items i ≡ i + 1
  pub columns : g.columns.items ≡ []

-- Column c is a side or a slack of the tableau, or one that was added, which come after these; and this is its entry in
-- the objective row.
abbrev pub HasPrice : Grown → ℕ → ℤ → Type 0
HasPrice g c price =
    ((c < width_of g.tableau) × (price ≡ entry_in g.tableau.rows.items (objective_of g.tableau) c))
    ⊎ ((n : ℕ) × (n < length g.columns.items) × (c ≡ width_of g.tableau + n)
    × (price ≡ entry_of g.tableau (objective_of g.tableau) (rows_of g n)))

-- In the objective row no column has an entry below this.
pub record NoneIsBelow (g : Grown) (least : ℤ) : Type 0 where
  pub slacks : (j : ℕ) → 1 ≤ j → j < width_of g.tableau
      → least ≤ℤ entry_in g.tableau.rows.items (objective_of g.tableau) j
  pub columns : (n : ℕ) → n < length g.columns.items
      → least ≤ℤ entry_of g.tableau (objective_of g.tableau) (rows_of g n)

-- Column c enters: its entry in the objective row is below 0, and none is lower.
abbrev pub IsEntering : Grown → ℕ → Type 0
IsEntering g c = (price : ℤ) × HasPrice g c price × (price <ℤ pos 0) × NoneIsBelow g price

-- The program is at its optimum: no column enters.
abbrev pub IsOptimal : Grown → Type 0
IsOptimal g = NoneIsBelow g (pos 0)

-- Column c, with its entry in each row.
abbrev pub AreEntriesOf : Grown → ℕ → List ℤ → Type 0
AreEntriesOf g c entries =
    ((c < width_of g.tableau) × IsColumnAt g.tableau.rows.items c entries)
    ⊎ ((n : ℕ) × (n < length g.columns.items) × (c ≡ width_of g.tableau + n)
    × IsWrittenOut g.tableau (rows_of g n) entries)

-- One pivot: a column enters that has the lowest entry in the objective row, in a row in which it is above 0.
pub record Turns (g next : Grown) : Type 0 where
  pub column : ℕ
  pub enters : IsEntering g column
  pub entries : List ℤ
  pub written : AreEntriesOf g column entries
  pub row : ℕ
  pub inside : row < objective_of g.tableau
  pub positive : pos 0 <ℤ number_at entries row
  pub pivot : IsPivotIn g.tableau.den g.tableau.rows.items entries row next.tableau.den next.tableau.rows.items
  pub basis : next.tableau.basis.items ≡ slice_set g.tableau.basis.items row column
  pub columns : next.columns ≡ g.columns

-- So many pivots lead from one program to another.
abbrev pub LeadsIn : ℕ → Grown → Grown → Type 0
LeadsIn zero g next = g ≡ next
LeadsIn (suc n) g next = (before : Grown) × LeadsIn n g before × Turns before next

-- No pivot is made: a column enters that has no entry above 0 in any row, so the program has no bound.
pub record HasNoRow (g : Grown) (column : ℕ) : Type 0 where
  pub entries : List ℤ
  pub written : AreEntriesOf g column entries
  pub none : (i : ℕ) → i < objective_of g.tableau → i < length entries → ¬ (pos 0 <ℤ number_at entries i)

-- No pivot is made: an entry passes its width after the pivot in a row in which the column that enters is above 0.
pub record PassesAfter (g : Grown) (column : ℕ) : Type 0 where
  pub entries : List ℤ
  pub written : AreEntriesOf g column entries
  pub row : ℕ
  pub inside : row < objective_of g.tableau
  pub positive : pos 0 <ℤ number_at entries row
  pub passes : PivotPasses g.tableau.den g.tableau.rows.items entries row

-- A number of a column that was added passes its width where it is written out.
abbrev pub ColumnPasses : Grown → Type 0
ColumnPasses g = (n : ℕ) × (n < length g.columns.items) × PassesSomewhere g.tableau (rows_of g n)

-- No pivot is made from this program on.
abbrev pub Stops : Grown → Type 0
Stops g = ColumnPasses g ⊎ ((c : ℕ) × IsEntering g c × (HasNoRow g c ⊎ PassesAfter g c))

-- There is so much of all columns: what the objective row has at the right is as many times the denominator.
abbrev pub HasSoMuch : Grown → ℕ → Type 0
HasSoMuch g much = pos (much * g.tableau.den) ≤ℤ entry_in g.tableau.rows.items (objective_of g.tableau) 0

-- Where the pivots end well: after at most 8,192, with so much of all columns, or where no column enters.
abbrev pub IsSolvedBy : ℕ → Grown → Grown → Type 0
IsSolvedBy much g next = (n : ℕ) × (n < 8192) × LeadsIn n g next × (HasSoMuch next much ⊎ IsOptimal next)

-- Where they end otherwise: after 8,192, or where the program that fewer led to makes none.
abbrev pub IsLeft : Grown → Type 0
IsLeft g = (n : ℕ) × (last : Grown) × LeadsIn n g last × ((n ≡ 8192) ⊎ ((n < 8192) × Stops last))

-- A column of these rows more, the last.
abbrev pub AddsColumn : List ℕ → Grown → Grown → Type 0
AddsColumn rows g next =
    (column : Vec ℕ Global) × (column.items ≡ rows) × (next.columns.items ≡ g.columns.items ++ column ∷ [])

-- The price of a row, over the denominator.
abbrev pub price_of : Grown → ℕ → ℤ
price_of g row = entry_in g.tableau.rows.items (objective_of g.tableau) (row + 1)

-- A number that evidence does not take: below 0, or past its width.
abbrev pub IsTooWide : ℤ → Type 0
IsTooWide z = (z <ℤ pos 0) ⊎ (pos EVIDENCE_WIDTH <ℤ z)

-- What there is of the column of row i passes the width of evidence, or so does the number of that column.
abbrev pub SidePasses : Tableau → ℕ → Type 0
SidePasses t i = (2 ^ 32 ≤ slice_index t.basis.items i) ⊎ IsTooWide (entry_in t.rows.items i 0)

abbrev pub SomeSidePasses : Tableau → Type 0
SomeSidePasses t = (i : ℕ) × (i < objective_of t) × SidePasses t i

-- The price of a row passes the width of evidence.
abbrev pub PricePasses : Tableau → Type 0
PricePasses t = (row : ℕ) × (row < objective_of t) × IsTooWide (entry_in t.rows.items (objective_of t) (row + 1))

-- A number that is read off passes its width: the denominator, what there is of a column, or the price of a row.
abbrev pub NumberPasses : Grown → Type 0
NumberPasses g = (EVIDENCE_WIDTH < g.tableau.den) ⊎ (SomeSidePasses g.tableau ⊎ PricePasses g.tableau)
