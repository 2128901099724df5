-- What a table says of n choices (Varian 1982, section 1): prices, the bundles that were bought at them, and what
-- each bundle costs at each prices.
use Rattle.std.specs.Prelude.{◌≡◌, refl, ℕ, ◌<◌, List}
use Rattle.rp_table.specs.Cost.{cost_of}
use Rattle.rp_table.specs.Spending.{spending}
use Rattle.rp_table.specs.Tables.{Observations, goods_of, price_of, quantity_of, records_of}

-- n observations of these goods: `price s g` and `quantity s g` are those of good g at observation s, and `cost s t`
-- is what the bundle of t costs at the prices of s. `levels` are those of the observations' own, or none.
pub record TableInput : Type 0 where
  pub n : ℕ
  pub goods : ℕ
  pub price : ℕ → ℕ → ℕ
  pub quantity : ℕ → ℕ → ℕ
  pub cost : ℕ → ℕ → ℕ
  pub levels : List ℕ
  pub sums : (s t : ℕ) → s < n → t < n → cost s t ≡ spending goods (price s) (quantity t)

-- What a table gives.
abbrev pub input_of_table : Observations → TableInput
input_of_table table = record {
  n = records_of table;
  goods = goods_of table;
  price = price_of table;
  quantity = quantity_of table;
  cost = cost_of table;
  levels = table.levels;
  sums = λ s t s_in t_in. refl;
}

-- Two inputs have the same prices and quantities of the same goods and the same levels at the same observations.
pub record AgreeInputs (input other : TableInput) : Type 0 where
  pub n : input.n ≡ other.n
  pub goods : input.goods ≡ other.goods
  pub prices : (s g : ℕ) → s < input.n → g < input.goods → input.price s g ≡ other.price s g
  pub levels : input.levels ≡ other.levels
  pub quantities : (s g : ℕ) → s < input.n → g < input.goods → input.quantity s g ≡ other.quantity s g
