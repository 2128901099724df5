-- What drawn bundles cost (Varian 1982, section 1).
use Rattle.std.specs.Prelude.{ℕ, ◌+◌, ◌*◌, List, [], slice_index}
use Rattle.rp_table.specs.Cost.{cost_at}
use Rattle.rp_table.specs.Spending.{spending}
use Rattle.rp_table.specs.Tables.{Observations, goods_of, price_of}

-- what the bundle of t costs at the prices of s, where these are the quantities, by observation and then good
abbrev pub cost_among : Observations → List ℕ → ℕ → ℕ → ℕ
cost_among table quantities s t =
    spending (goods_of table) (price_of table s) (λ g. slice_index quantities (t * goods_of table + g))

-- the cost of the bundle of t at the prices of s in a list of n by n costs, by prices and then bundles
abbrev pub cost_in : ℕ → List ℕ → ℕ → ℕ → ℕ
cost_in n costs = cost_at (record { n = n; entries = costs; levels = [] })

-- what the bundle of t costs at its own prices
abbrev pub own_cost_among : Observations → List ℕ → ℕ → ℕ
own_cost_among table quantities t = cost_among table quantities t t
