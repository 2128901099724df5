-- What one observation's bundle costs at another's prices (Varian 1982, "The Nonparametric Approach to
-- Demand Analysis", section 1).
use Rattle.std.specs.Prelude.{◌≡◌, ℕ, ◌+◌, ◌*◌, ◌^◌, ◌<◌, ◌≤◌, List, length, All, slice_index}
use Rattle.std.specs.Prelude.{ℤ, pos, ◌-ℤ◌}
use Rattle.rp_table.specs.OwnLevels.{AreOwnLevels, level_scale, own_by_level}
use Rattle.rp_table.specs.Spending.{spending}
use Rattle.rp_limits.specs.declared.table.TheConstants.{RECORDS}
use Rattle.rp_table.specs.Tables.{Observations, goods_of, records_of, price_of, quantity_of}

-- the cost of the bundle of observation t at the prices of observation s
abbrev pub cost_of : Observations → ℕ → ℕ → ℕ
cost_of table s t = spending (goods_of table) (price_of table s) (quantity_of table t)

-- the costs of n observations, by prices and then bundles, and their levels, or none
pub record CostTable : Type 0 where
  pub n : ℕ
  pub entries : List ℕ
  pub levels : List ℕ

-- the cost of bundle t at prices s
abbrev pub cost_at : CostTable → ℕ → ℕ → ℕ
cost_at costs s t = slice_index costs.entries (s * costs.n + t)

-- what costs are multiplied by where they are held to levels
abbrev pub scale_of : CostTable → ℕ
scale_of costs = level_scale costs.levels

-- what was spent at s, by the level of s and times that scale
abbrev pub own_of : CostTable → ℕ → ℕ
own_of costs s = own_by_level costs.levels (cost_at costs) s

-- what bundle t costs at prices s above what was spent at s by its level, times that scale
abbrev pub gap_of : CostTable → ℕ → ℕ → ℤ
gap_of costs s t = pos (scale_of costs * cost_at costs s t) -ℤ pos (own_of costs s)

-- costs of 1 to RECORDS observations, each at least 1, since prices are positive and no bundle is empty
pub record IsCostTable (costs : CostTable) : Type 0 where
  pub some : 1 ≤ costs.n
  pub few : costs.n ≤ RECORDS
  pub all : length costs.entries ≡ costs.n * costs.n
  pub limits : All (λ cost. (1 ≤ cost) × (cost < 2 ^ 51)) costs.entries
  pub own_levels : AreOwnLevels costs.n costs.levels

-- these are the costs of that table, with its levels
pub record IsCostsOf (costs : CostTable) (table : Observations) : Type 0 where
  pub size : costs.n ≡ records_of table
  pub each : (s t : ℕ) → s < records_of table → t < records_of table → cost_at costs s t ≡ cost_of table s t
  pub levels : costs.levels ≡ table.levels
