-- A random behaviour on the budgets of a table: at the prices of each observation, what was spent there is divided
-- among the goods by shares that are drawn (after Bronars 1987; whole quantities and their limit are this project's
-- own).
use Rattle.std.specs.Prelude.{ℕ, ◌+◌, ◌*◌, ◌/◌, List, [], min, slice_index}
use Rattle.rp_num.specs.Below.{rows_below}
use Rattle.rp_table.specs.Cost.{cost_of}
use Rattle.rp_table.specs.Sums.{sum_below}
use Rattle.rp_table.specs.Tables.{Observations, goods_of, records_of, price_of}
use Rattle.rp_limits.specs.declared.table.TheConstants.{LARGEST}
use Rattle.rp_power.specs.DrawnNumbers.{drawn_numbers, not_all_zero}

-- the share of what was spent at observation t that goes to each good, by a list of words, one for each observation and
-- then good: a number of the sum of them all
abbrev pub budget_share_of : Observations → List ℕ → ℕ → ℕ → ℕ
budget_share_of table words t = drawn_numbers (goods_of table) (λ g. slice_index words (t * goods_of table + g))

-- the whole part of what a good's share of an expenditure buys at the good's price, within the limit of quantities
abbrev pub affordable : ℕ → ℕ → ℕ → ℕ → ℕ
affordable spent share total price = min LARGEST (spent * share / (total * price))

-- what the share of each good at observation t buys there
abbrev pub bought_of : Observations → List ℕ → ℕ → ℕ → ℕ
bought_of table words t g =
    affordable (cost_of table t t) (budget_share_of table words t g) (sum_below (goods_of table) (budget_share_of table words t))
    (price_of table t g)

-- the drawn quantity of each good at observation t: 1 of the first where nothing is bought
abbrev pub drawn_quantity : Observations → List ℕ → ℕ → ℕ → ℕ
drawn_quantity table words t = not_all_zero (goods_of table) (bought_of table words t)

-- the table with the drawn quantities in place of those that were bought, without levels
abbrev pub drawn_table : Observations → List ℕ → Observations
drawn_table table words = record {
  names = table.names;
  prices = table.prices;
  quantities = rows_below (records_of table) (goods_of table) (drawn_quantity table words);
  price_places = table.price_places;
  quantity_places = table.quantity_places;
  levels = [];
}
