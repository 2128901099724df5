-- Observed production (Varian 1984): input prices, the inputs that a firm used at them and what it made of them, in
-- scaled whole numbers; and the price of the output, where it is known.
use Rattle.std.specs.Prelude.{◌≡◌, ℕ, ◌⊎◌, List, length, All}
use Rattle.rp_table.specs.Limits.{IsPrice, IsQuantity}
use Rattle.rp_table.specs.Tables.{Observations, IsTable, records_of}

-- a table of input prices and inputs, the output of each observation, and its price at each or at none
pub record Technology : Type 0 where
  pub table : Observations
  pub y : List ℕ
  pub p : List ℕ

-- observations within the limits: each uses some input, and an output may be 0
pub record IsTechnology (tech : Technology) : Type 0 where
  pub inputs : IsTable tech.table
  pub all_outputs : length tech.y ≡ records_of tech.table
  pub output_limits : All IsQuantity tech.y
  pub all_output_prices : (length tech.p ≡ 0) ⊎ (length tech.p ≡ records_of tech.table)
  pub output_price_limits : All IsPrice tech.p
