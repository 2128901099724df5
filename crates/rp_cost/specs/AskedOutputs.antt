-- Outputs whose cost is asked at new input prices (after Varian 1984), in scaled whole numbers.
use Rattle.std.specs.Prelude.{◌≡◌, ℕ, List, length, All}
use Rattle.rp_table.specs.Limits.{IsQuantity}
use Rattle.rp_table.specs.PriceLists.{PriceList, IsPriceList}
use Rattle.rp_table.specs.Rows.{rows_count}

-- new prices of the inputs, and an output for each record of them
pub record AskedOutputs : Type 0 where
  pub prices : PriceList
  pub y : List ℕ

-- prices and outputs within the limits, with no expenditure; an output may be 0
pub record AreAskedOutputs (asked : AskedOutputs) : Type 0 where
  pub priced : IsPriceList asked.prices
  pub no_expenditure : length asked.prices.m ≡ 0
  pub one_each : length asked.y ≡ rows_count asked.prices.prices asked.prices.goods
  pub output_limits : All IsQuantity asked.y
