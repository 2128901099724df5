-- Tables of observations (Varian 1982): at each a price and a quantity of each good, in scaled whole numbers.
-- A price of 125 with two places stands for 1.25.
use Rattle.std.specs.Prelude.{◌≡◌, ◌≢◌, ℕ, ◌+◌, ◌*◌, ◌/◌, ◌<◌, ◌≤◌, List, [], length, All, AllPairs, slice_index}
use Rattle.std.specs.Prelude.{Option, Some, None, Vec, slice_index_or}
use Rattle.std.specs.declared.alloc.Global.{Global}
use Rattle.rp_table.specs.Sums.{sum_below}
use Rattle.rp_table.specs.Limits.{IsPrice, IsQuantity}
use Rattle.rp_table.specs.OwnLevels.{AreOwnLevels}
use Rattle.rp_limits.specs.declared.table.TheConstants.{RECORDS, GOODS, DECIMAL_PLACES, LEVEL_SCALE}

-- the goods' names, and by observation and then good the prices and the quantities, each with the
-- number of decimal places that its scale stands for, and by observation the levels, or none of them
pub record Observations : Type 0 where
  pub names : List (List ℕ)
  pub prices : List ℕ
  pub quantities : List ℕ
  pub price_places : ℕ
  pub quantity_places : ℕ
  pub levels : List ℕ

-- the levels that are given, or none
abbrev pub levels_given : Option (Vec ℕ Global) → List ℕ
levels_given None = []
levels_given (Some levels) = levels.items

-- how many goods there are
abbrev pub goods_of : Observations → ℕ
goods_of table = length table.names

-- how many observations there are
abbrev pub records_of : Observations → ℕ
records_of table = length table.prices / goods_of table

-- the price of good g at observation t
abbrev pub price_of : Observations → ℕ → ℕ → ℕ
price_of table t g = slice_index table.prices (t * goods_of table + g)

-- the quantity of good g that was bought at observation t
abbrev pub quantity_of : Observations → ℕ → ℕ → ℕ
quantity_of table t g = slice_index table.quantities (t * goods_of table + g)

-- the level of observation t: the whole where the table has no levels
abbrev pub level_of : Observations → ℕ → ℕ
level_of table t = slice_index_or table.levels t LEVEL_SCALE

-- how much was bought at observation t, over all goods
abbrev pub bundle_size : Observations → ℕ → ℕ
bundle_size table t = sum_below (goods_of table) (quantity_of table t)

-- a table within the limits: a price and a quantity of each good at each observation, no price of 0, no
-- observation at which nothing was bought, and a level of each observation or of none
pub record IsTable (table : Observations) : Type 0 where
  pub some_goods : 1 ≤ goods_of table
  pub few_goods : goods_of table ≤ GOODS
  pub distinct : AllPairs (λ a b. a ≢ b) table.names
  pub some_records : 1 ≤ records_of table
  pub few_records : records_of table ≤ RECORDS
  pub all_prices : length table.prices ≡ records_of table * goods_of table
  pub all_quantities : length table.quantities ≡ records_of table * goods_of table
  pub price_limits : All IsPrice table.prices
  pub quantity_limits : All IsQuantity table.quantities
  pub bought : (t : ℕ) → t < records_of table → 1 ≤ bundle_size table t
  pub few_price_places : table.price_places ≤ DECIMAL_PLACES
  pub few_quantity_places : table.quantity_places ≤ DECIMAL_PLACES
  pub own_levels : AreOwnLevels (records_of table) table.levels
