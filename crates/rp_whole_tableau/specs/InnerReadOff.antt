-- For the proofs alone: common divisors of the numbers that are read off. No public clause cites these words.
use Prim.Native.Nat.{◌∣◌}
use Rattle.std.specs.Prelude.{ℕ, ◌≡◌, ◌<◌, ◌≤◌, ◌*◌, ◌+◌, pos, List, length, slice_index}
use Rattle.std.specs.Int.RustNames.{unsigned_abs}
use Rattle.rp_whole_tableau.specs.Pivots.{entry_in}
use Rattle.rp_whole_tableau.specs.Programs.{objective_of, width_of}
use Rattle.rp_whole_tableau.specs.declared.tableau.Tableau.{Tableau}

-- It divides how much there is of each added column that is basic in one of the first n rows.
abbrev pub DividesAmounts : Tableau → ℕ → ℕ → Type 0
DividesAmounts t n common =
    (i : ℕ) → i < n → width_of t ≤ slice_index t.basis.items i → common ∣ unsigned_abs (entry_in t.rows.items i 0)

-- It divides the prices of the first n rows.
abbrev pub DividesPrices : Tableau → ℕ → ℕ → Type 0
DividesPrices t n common = (i : ℕ) → i < n → common ∣ unsigned_abs (entry_in t.rows.items (objective_of t) (i + 1))

-- It divides the denominator and how much there is of each added column that is basic in one of the first n rows.
pub record DividesPointBelow (t : Tableau) (n common : ℕ) : Type 0 where
  pub some : 1 ≤ common
  pub den : common ∣ t.den
  pub amounts : DividesAmounts t n common

-- That in all rows.
abbrev pub DividesPoint : Tableau → ℕ → Type 0
DividesPoint t common = DividesPointBelow t (objective_of t) common

-- It divides a number and the prices of the first n rows.
pub record DividesWith (t : Tableau) (first n common : ℕ) : Type 0 where
  pub some : 1 ≤ common
  pub divides : common ∣ first
  pub prices : DividesPrices t n common

-- The prices of the rows of a tableau, by a common divisor of them.
pub record ArePricesIn (t : Tableau) (common : ℕ) (prices : List ℕ) : Type 0 where
  pub many : length prices ≡ objective_of t
  pub each : (i : ℕ) → i < objective_of t → pos (slice_index prices i * common) ≡ entry_in t.rows.items (objective_of t) (i + 1)
