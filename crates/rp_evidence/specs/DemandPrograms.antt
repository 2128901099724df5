-- The two linear programs of a good: the least and the greatest that a bundle on the new budget can have of it where
-- it costs enough (this project's own form; duality of linear programming as in Gale, Kuhn and Tucker 1951).
use Rattle.std.specs.Prelude.{ℕ, ◌+◌, ◌==◌, ℤ, pos, neg_ℤ, List, length, slice_index, if◌then◌else◌, nat_lt}
use Rattle.rp_farkas.specs.LinearProgram.{LinearProgram}
use Rattle.rp_evidence.specs.Demand.{BudgetInput, IsBelow, IsStrictlyBelow}
use Rattle.rp_evidence.specs.Enumeration.{Enumerates}
use Rattle.rp_evidence.specs.Input.{TableInput}

-- The list has just the observations below, in increasing order.
abbrev pub ListsBelow : TableInput → BudgetInput → List ℕ → Type 0
ListsBelow input budget below = Enumerates input.n (IsBelow input budget) below

-- The list has just the observations strictly below, in increasing order.
abbrev pub ListsStrictlyBelow : TableInput → BudgetInput → List ℕ → Type 0
ListsStrictlyBelow input budget strict = Enumerates input.n (IsStrictlyBelow input budget) strict

-- The columns of both programs: the prices of each observation below, the new prices, and the new prices negated.
abbrev pub demand_entry : TableInput → BudgetInput → List ℕ → ℕ → ℕ → ℤ
demand_entry input budget below i j =
    if nat_lt j (length below) then pos (input.price (slice_index below j) i)
    else (if j == length below then pos (budget.prices i) else neg_ℤ (pos (budget.prices i)))

-- What a column is worth: what was spent at the observation, or at the new prices.
abbrev pub demand_worth : TableInput → BudgetInput → List ℕ → ℕ → ℤ
demand_worth input budget below j =
    if nat_lt j (length below) then pos (input.cost (slice_index below j) (slice_index below j))
    else (if j == length below then pos budget.expenditure else neg_ℤ (pos budget.expenditure))

-- The program with these columns: its price vectors are the bundles on the new budget that cost enough.
abbrev pub demand_program : TableInput → BudgetInput → List ℕ → (ℕ → ℤ) → LinearProgram
demand_program input budget below right = record {
  rows = input.goods;
  cols = length below + 2;
  a = demand_entry input budget below;
  b = right;
  c = demand_worth input budget below;
}

-- The program whose prices have the least of good g: its right side is 1 at g alone.
abbrev pub lower_program : TableInput → BudgetInput → List ℕ → ℕ → LinearProgram
lower_program input budget below g = demand_program input budget below (λ i. if i == g then pos 1 else pos 0)

-- The program whose prices have the greatest of good g: its right side is what the other goods cost.
abbrev pub upper_program : TableInput → BudgetInput → List ℕ → ℕ → LinearProgram
upper_program input budget below g =
    demand_program input budget below (λ i. if i == g then pos 0 else pos (budget.prices i))
