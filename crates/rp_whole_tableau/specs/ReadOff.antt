-- What is read off a program: how much there is of its columns, and the prices of its rows, each number over the
-- denominator and shortened by one common divisor (Edmonds 1967).
use Rattle.std.specs.Prelude.{ℕ, ◌≡◌, ◌<◌, ◌*◌, ◌+◌, ◌⊎◌, ◌++◌, [], ◌∷◌, zero, suc, pos, List, length, slice_index}
use Rattle.rp_farkas.specs.declared.entry.Entry.{Entry}
use Rattle.rp_farkas.specs.declared.entry.Pair.{Pair}
use Rattle.rp_whole_tableau.specs.Pivots.{entry_in}
use Rattle.rp_whole_tableau.specs.Programs.{objective_of, price_of, width_of}
use Rattle.rp_whole_tableau.specs.declared.grown.Grown.{Grown}
use Rattle.rp_whole_tableau.specs.declared.tableau.Tableau.{Tableau}

-- The basic column of row i was added, and this is its number with how much there is of it, shortened.
pub record IsAmount (t : Tableau) (common i : ℕ) (entry : Entry) : Type 0 where
  pub column : slice_index t.basis.items i ≡ width_of t + entry.at
  pub some : 0 < entry.value
  pub amount : pos (entry.value * common) ≡ entry_in t.rows.items i 0

-- The basic column of row i is a slack, or there is nothing of it.
abbrev pub HasNoAmount : Tableau → ℕ → Type 0
HasNoAmount t i = (slice_index t.basis.items i < width_of t) ⊎ (entry_in t.rows.items i 0 ≡ pos 0)

-- How much there is of the added columns that are basic in the first n rows, in the order of the rows.
abbrev pub AreAmounts : Tableau → ℕ → ℕ → List Entry → Type 0
AreAmounts t common zero entries = entries ≡ []
AreAmounts t common (suc n) entries =
    (HasNoAmount t n × AreAmounts t common n entries)
    ⊎ ((before : List Entry) × (entry : Entry) × AreAmounts t common n before × IsAmount t common n entry
    × (entries ≡ before ++ entry ∷ []))

-- The point of a program: the denominator, and how much there is of each added column of which there is some.
pub record IsPointBy (g : Grown) (common den : ℕ) (entries : List Entry) : Type 0 where
  pub denominator : den * common ≡ g.tableau.den
  pub amounts : AreAmounts g.tableau common (objective_of g.tableau) entries

-- The prices of the rows of a program.
pub record ArePricesBy (g : Grown) (common : ℕ) (prices : List ℕ) : Type 0 where
  pub many : length prices ≡ objective_of g.tableau
  pub each : (i : ℕ) → i < objective_of g.tableau → pos (slice_index prices i * common) ≡ price_of g i

-- The point of a program, by some common divisor of its numbers.
abbrev pub IsPointOf : Grown → Pair → Type 0
IsPointOf g pair = (common : ℕ) × IsPointBy g common pair.den pair.y

-- The point and the prices of a program, by one common divisor of their numbers.
abbrev pub IsPairOf : Grown → Pair → Type 0
IsPairOf g pair = (common : ℕ) × IsPointBy g common pair.den pair.y × ArePricesBy g common pair.x
