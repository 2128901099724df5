-- A table within its limits has observations, goods and prices, and no empty bundle.
use Rattle.std.proofs.Common.{ℕ, ◌+◌, ◌*◌, ◌<◌, ◌≤◌, arith}
use Rattle.std.proofs.Math.Nat.{mul-le-mul_left}
use Rattle.std.proofs.lemmas.Nat.{mul-add-lt}
use Rattle.rp_table.specs.Sums.{sum_below}
use Rattle.rp_table.specs.Tables.{IsTable, Observations, goods_of, price_of, quantity_of, records_of}
use Rattle.rp_table.proofs.SumsBelow.{sum_below-mono}
use Rattle.rp_evidence.specs.Input.{input_of_table}
use Rattle.rp_people.specs.TableChoices.{IsFullInput}

module _ (table : Observations) (is : IsTable table) where
  price_positive : (s g : ℕ) → s < records_of table → g < goods_of table → 1 ≤ price_of table s g
  price_positive s g a b =
      let l = mul-add-lt s (goods_of table) g (records_of table) a b in
      (is.price_limits (s * goods_of table + g) 0 (omega (arith, is.all_prices, l))).0

  cost_positive : (s t : ℕ) → s < records_of table → t < records_of table → 1 ≤ sum_below (goods_of table) (λ g. price_of table s g * quantity_of table t g)
  cost_positive s t a b =
      let l = sum_below-mono (quantity_of table t) (λ g. price_of table s g * quantity_of table t g) (goods_of table)
      (λ g h. at_least (price_of table s g) (quantity_of table t g) (price_positive s g a h)) in
      omega (arith, l, is.bought t b)
    where
      at_least : (p q : ℕ) → 1 ≤ p → q ≤ p * q
      at_least p q h = let k : q * 1 ≤ q * p = mul-le-mul_left q h in omega arith

  pub table_is_full : IsFullInput (input_of_table table)
  table_is_full = record {
    some = is.some_records;
    some_goods = is.some_goods;
    positive_prices = price_positive;
    positive_costs = cost_positive;
  }
