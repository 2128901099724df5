-- Budgets: prices of goods, and what there is to spend at them (Kitamura and Stoye 2018), in scaled whole numbers.
use Rattle.std.specs.Prelude.{◌≡◌, ℕ, ◌*◌, ◌≤◌, List, length, All}
use Rattle.rp_table.specs.Limits.{IsPrice, IsExpenditure}
use Rattle.rp_limits.specs.declared.table.TheConstants.{GOODS, BUDGETS}

-- the goods' names, a price of each good, by budget and then good, and the income of each budget
pub record BudgetList : Type 0 where
  pub names : List (List ℕ)
  pub prices : List ℕ
  pub w : List ℕ

-- budgets within the limits, with no price and no income of 0
pub record IsBudgetList (list : BudgetList) : Type 0 where
  pub some_goods : 1 ≤ length list.names
  pub few_goods : length list.names ≤ GOODS
  pub some_budgets : 1 ≤ length list.w
  pub few_budgets : length list.w ≤ BUDGETS
  pub all_prices : length list.prices ≡ length list.w * length list.names
  pub price_limits : All IsPrice list.prices
  pub income_limits : All IsExpenditure list.w
