-- Bundles of goods, in scaled whole numbers (this project's own form).
use Rattle.std.specs.Prelude.{◌≡◌, ℕ, ◌*◌, ◌≤◌, List, length, All}
use Rattle.rp_table.specs.Rows.{rows_count}
use Rattle.rp_table.specs.Limits.{IsQuantity}
use Rattle.rp_limits.specs.declared.table.TheConstants.{GOODS, NEW_RECORDS}

-- a quantity of each good, by bundle and then good
pub record BundleList : Type 0 where
  pub goods : ℕ
  pub quantities : List ℕ

-- bundles within the limits
pub record IsBundleList (list : BundleList) : Type 0 where
  pub some_goods : 1 ≤ list.goods
  pub few_goods : list.goods ≤ GOODS
  pub some_records : 1 ≤ rows_count list.quantities list.goods
  pub few_records : rows_count list.quantities list.goods ≤ NEW_RECORDS
  pub all_quantities : length list.quantities ≡ rows_count list.quantities list.goods * list.goods
  pub quantity_limits : All IsQuantity list.quantities
