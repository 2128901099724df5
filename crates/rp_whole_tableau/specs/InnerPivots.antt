-- For the proofs alone: a pivot that is half made. No public clause cites these words.
use Rattle.std.specs.Prelude.{ℤ, ℕ, ◌≡◌, ◌≢◌, ◌<◌, ◌≤◌, ◌≤ℤ◌, ◌<ℤ◌, ◌⊎◌, Option, None, Some, pos, ◌*ℤ◌, List, length, Vec}
use Rattle.std.specs.declared.alloc.Global.{Global}
use Rattle.rp_whole_tableau.specs.Pivots.{IsRowRenewed, PassesWidth, crossed, entry_in, number_at, row_of}
use Rattle.rp_whole_tableau.specs.Programs.{HasPrice, entry_of, objective_of, rows_of}
use Rattle.rp_whole_tableau.specs.declared.grown.Grown.{Grown}
use Rattle.rp_whole_tableau.specs.declared.grown.Lowest.{Lowest}

-- The entries before place j are renewed, the others stay.
pub record IsRenewedBelow (den : ℕ) (pivot factor : ℤ) (across before after : List ℤ) (j : ℕ) : Type 0 where
  pub as_long : length after ≡ length before
  pub exact : (k : ℕ) → k < j
      → number_at after k *ℤ pos den ≡ crossed pivot (number_at before k) factor (number_at across k)
  pub rest : (k : ℕ) → j ≤ k → number_at after k ≡ number_at before k

-- The rows before row i are renewed but row r, the others stay.
pub record AreRenewedBelow (den : ℕ) (across column : List ℤ) (r : ℕ) (before after : List (Vec ℤ Global)) (i : ℕ)
    : Type 0 where
  pub count : length after ≡ length before
  pub done : (k : ℕ) → k < i → k ≢ r
      → IsRowRenewed den (number_at column r) (number_at column k) across (row_of before k) (row_of after k)
  pub rest : (k : ℕ) → i ≤ k → row_of after k ≡ row_of before k
  pub own : row_of after r ≡ row_of before r

-- Some entry of a row but row r is no whole number within the width after the pivot.
abbrev pub PassesSome : ℕ → List ℤ → List ℤ → ℕ → List (Vec ℤ Global) → Type 0
PassesSome den across column r rows =
    (i : ℕ) × (i < length rows) × (i ≢ r) × PassesWidth den (number_at column r) (number_at column i) across (row_of rows i)

-- A column has this entry in the objective row, which is below 0; or there is no column yet, and the entry is 0.
abbrev pub HasColumn : Grown → Option ℕ → ℤ → Type 0
HasColumn g None price = price ≡ pos 0
HasColumn g (Some c) price = HasPrice g c price × (price <ℤ pos 0)

-- The lowest of the slacks before place j and of the first n columns that were added.
pub record IsLowestBelow (g : Grown) (j n : ℕ) (lowest : Lowest) : Type 0 where
  pub is : HasColumn g lowest.column lowest.price
  pub slacks : (k : ℕ) → 1 ≤ k → k < j
      → lowest.price ≤ℤ entry_in g.tableau.rows.items (objective_of g.tableau) k
  pub columns : (k : ℕ) → k < n → lowest.price ≤ℤ entry_of g.tableau (objective_of g.tableau) (rows_of g k)

-- A column was put in the place of another, as its entry is lower; or the other stays.
abbrev pub IsLowerOf : Lowest → ℕ → ℤ → Lowest → Type 0
IsLowerOf before column price after =
    ((price <ℤ before.price) × (after.column ≡ Some column) × (after.price ≡ price))
    ⊎ ((before.price ≤ℤ price) × (after ≡ before))
