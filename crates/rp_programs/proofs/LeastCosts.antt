-- What prices of the program of least cost cost: what they cost at the new prices.
use Rattle.std.proofs.Common.{◌≡◌, ℕ, pos, List, ap}
use Rattle.std.specs.Int.RustNames.{unsigned_abs}
use Rattle.rp_evidence.specs.Demand.{spending}
use Rattle.rp_evidence.specs.Input.{TableInput}
use Rattle.rp_evidence.specs.LeastCost.{least_cost_program}
use Rattle.rp_evidence.proofs.DemandBounds.{total_of_sum}
use Rattle.rp_farkas.specs.Measure.{measured}
use Rattle.rp_farkas.specs.Prices.{value_of_prices}
use Rattle.rp_farkas.specs.declared.measure.Measure.TheVariants.{Cost}

module _ (input : TableInput) (prices : ℕ → ℕ) (listed : List ℕ) where
  pub cost_is : (x : ℕ → ℕ) → value_of_prices (least_cost_program input prices listed) x ≡ pos (spending input.goods prices x)
  cost_is x = total_of_sum input.goods prices x

  pub measure_is : (x : ℕ → ℕ) → measured (least_cost_program input prices listed) Cost x ≡ spending input.goods prices x
  measure_is x = ap unsigned_abs (cost_is x)
