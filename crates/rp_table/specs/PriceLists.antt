-- Prices at which something is asked, and what is spent at them, in scaled whole numbers (this project's own form).
use Rattle.std.specs.Prelude.{◌≡◌, ℕ, ◌*◌, ◌≤◌, ◌⊎◌, List, length, All}
use Rattle.rp_table.specs.Rows.{rows_count}
use Rattle.rp_table.specs.Limits.{IsPrice, IsExpenditure}
use Rattle.rp_limits.specs.declared.table.TheConstants.{GOODS, NEW_RECORDS}

-- a price of each good, by record and then good, and an expenditure for each record or for none
pub record PriceList : Type 0 where
  pub goods : ℕ
  pub prices : List ℕ
  pub m : List ℕ

-- prices within the limits, none of them 0, and expenditures that are not 0
pub record IsPriceList (list : PriceList) : Type 0 where
  pub some_goods : 1 ≤ list.goods
  pub few_goods : list.goods ≤ GOODS
  pub some_records : 1 ≤ rows_count list.prices list.goods
  pub few_records : rows_count list.prices list.goods ≤ NEW_RECORDS
  pub all_prices : length list.prices ≡ rows_count list.prices list.goods * list.goods
  pub all_expenditures : (length list.m ≡ 0) ⊎ (length list.m ≡ rows_count list.prices list.goods)
  pub price_limits : All IsPrice list.prices
  pub expenditure_limits : All IsExpenditure list.m
