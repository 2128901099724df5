-- Choices from budgets: which bundle on which budget, and how many times (Kitamura and Stoye 2018).
use Rattle.std.specs.Prelude.{◌≡◌, ℕ, ◌*◌, ◌<◌, ◌≤◌, List, length, All}
use Rattle.rp_table.specs.Limits.{IsQuantity}
use Rattle.rp_limits.specs.declared.table.TheConstants.{GOODS, LARGEST, BUDGETS, CHOICES}

-- for each choice the number of its budget, from 0, its quantity of each good, and its count
pub record ChoiceList : Type 0 where
  pub goods : ℕ
  pub budget : List ℕ
  pub quantities : List ℕ
  pub times : List ℕ

-- choices within the limits
pub record IsChoiceList (list : ChoiceList) : Type 0 where
  pub some_goods : 1 ≤ list.goods
  pub few_goods : list.goods ≤ GOODS
  pub some_choices : 1 ≤ length list.budget
  pub few_choices : length list.budget ≤ CHOICES
  pub all_quantities : length list.quantities ≡ length list.budget * list.goods
  pub all_times : length list.times ≡ length list.budget
  pub budget_limits : All (λ j. j < BUDGETS) list.budget
  pub quantity_limits : All IsQuantity list.quantities
  pub times_limits : All (λ n. n ≤ LARGEST) list.times
