-- The cheapest of the first observations that equal or reach one. No definition and no public clause rests on these
-- words.
use Rattle.std.specs.Prelude.{◌≡◌, ℕ, ◌<◌, ◌≤◌, ◌⊎◌}
use Rattle.rp_evidence.specs.Demand.{spending}
use Rattle.rp_evidence.specs.Input.{TableInput, input_of_table}
use Rattle.rp_evidence.specs.Welfare.{EqualsOrReaches}
use Rattle.rp_table.specs.Tables.{Observations}

-- What the bundle of observation s costs at the prices.
abbrev pub cost_at_prices : Observations → (ℕ → ℕ) → ℕ → ℕ
cost_at_prices table prices s = spending (input_of_table table).goods prices ((input_of_table table).quantity s)

-- s is before r: it costs less, or the same and comes first.
abbrev pub IsBefore : ℕ → ℕ → ℕ → ℕ → Type 0
IsBefore cost s cost' r = (cost < cost') ⊎ ((cost ≡ cost') × (s < r))

-- s equals or reaches t; of the first observations that do, none is before it.
pub record IsCheapestBelow (input : TableInput) (prices : ℕ → ℕ) (t end s cost : ℕ) : Type 0 where
  pub observed : s < input.n
  pub leads : EqualsOrReaches input s t
  pub costs : spending input.goods prices (input.quantity s) ≡ cost
  pub least : (r : ℕ) → r < end → EqualsOrReaches input r t → cost ≤ spending input.goods prices (input.quantity r)
  pub first : (r : ℕ) → r < end → r < s → EqualsOrReaches input r t
      → cost < spending input.goods prices (input.quantity r)
