-- What is spent at an observation is within the limits of entries.
use Rattle.std.proofs.Common.{◌<◌, ◌≤◌, ◌*◌, ◌+◌, ℕ, zero, suc, arith}
use Rattle.std.proofs.lemmas.Nat.{mul-add-lt}
use Rattle.std.proofs.Math.Nat.{mul-le-mul_left, mul-le-mul_right}
use Rattle.rp_farkas.specs.Limits.{largest_entry}
use Rattle.rp_table.specs.Cost.{cost_of}
use Rattle.rp_table.specs.Spending.{spending}
use Rattle.rp_table.specs.Sums.{sum_below}
use Rattle.rp_table.specs.Tables.{IsTable, Observations, goods_of, price_of, quantity_of, records_of}
use Rattle.rp_limits.specs.declared.table.TheConstants.{LARGEST}
use Rattle.rp_table.proofs.SumsBelow.{sum_below-mono}

pub sum_at_most : (k m : ℕ) (f : ℕ → ℕ) → ((i : ℕ) → i < k → f i ≤ m) → sum_below k f ≤ k * m
sum_at_most zero m f h = omega arith
sum_at_most (suc k) m f h =
    let before = sum_at_most k m f (λ i l. h i (omega arith)) in
    let last = h k (omega arith) in
    omega (arith, before, last)

module _ (table : Observations) (valid : IsTable table) where
  price_small : (t g : ℕ) → t < records_of table → g < goods_of table → price_of table t g ≤ LARGEST
  price_small t g t_in g_in =
      (valid.price_limits (t * goods_of table + g) 0 (omega (arith, mul-add-lt t (goods_of table) g (records_of table) t_in g_in, valid.all_prices))).1

  quantity_small : (t g : ℕ) → t < records_of table → g < goods_of table → quantity_of table t g ≤ LARGEST
  quantity_small t g t_in g_in =
      valid.quantity_limits (t * goods_of table + g) 0 (omega (arith, mul-add-lt t (goods_of table) g (records_of table) t_in g_in, valid.all_quantities))

  -- what is spent is at most what the most of every good costs
  pub spent_at_most : (t : ℕ) → t < records_of table → cost_of table t t ≤ spending (goods_of table) (price_of table t) (λ g. LARGEST)
  spent_at_most t t_in =
      sum_below-mono (λ g. price_of table t g * quantity_of table t g) (λ g. price_of table t g * LARGEST) (goods_of table)
      (λ g g_in. mul-le-mul_left (price_of table t g) (quantity_small t g t_in g_in))

  pub spent_small : (t : ℕ) → t < records_of table → cost_of table t t ≤ largest_entry
  spent_small t t_in =
      let h = spent_at_most t t_in in
      let k = sum_at_most (goods_of table) (LARGEST * LARGEST) (λ g. price_of table t g * LARGEST) (λ g g_in. mul-le-mul_right LARGEST (price_small t g t_in g_in)) in
      let few = mul-le-mul_right (LARGEST * LARGEST) valid.few_goods in
      omega (arith, h, k, few)
