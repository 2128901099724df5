-- New prices: prices at which no choice was seen yet (Varian 1982, on forecasting demand).
use Rattle.std.specs.Prelude.{◌≡◌, ℕ, List, length, All}
use Rattle.rp_table.specs.Limits.{IsPrice}

-- one price for each good, within its limits
pub record AreNewPrices (goods : ℕ) (prices : List ℕ) : Type 0 where
  pub one_each : length prices ≡ goods
  pub fit : All IsPrice prices
