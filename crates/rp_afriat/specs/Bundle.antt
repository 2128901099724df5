-- What a bundle of its own costs at the prices of an observation (Varian 1982, section 1).
use Rattle.std.specs.Prelude.{ℕ, List, slice_index}
use Rattle.rp_table.specs.Spending.{spending}
use Rattle.rp_table.specs.Tables.{Observations, goods_of, price_of}

-- the cost of the bundle at the prices of observation s
abbrev pub bundle_cost : Observations → List ℕ → ℕ → ℕ
bundle_cost table bundle s = spending (goods_of table) (price_of table s) (slice_index bundle)
