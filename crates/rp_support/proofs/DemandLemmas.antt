-- The whole verdict: the inner demand, and what shown bounds are.
use Rattle.std.proofs.Common.{◌≡◌, ◌<◌, ◌+◌, ◌*◌, ℕ, ℤ, List, ap, arith, slice_index}
use Rattle.std.proofs.lemmas.Nat.{mul-add-lt}
use Rattle.std.proofs.Math.Nat.{lt_of_mul-lt-mul_left, mul-lt-mul_of_pos_left}
use Rattle.rp_num.specs.Fraction.{Fraction, IsLowestTerms}
use Rattle.rp_evidence.specs.Demand.{BudgetInput, FractionBundle, IsInfimum, IsInnerDemand, IsSupportingDemand, IsSupremum}
use Rattle.rp_evidence.specs.DemandEvidence.{ProvesLower, ProvesUpper, budget_of}
use Rattle.rp_evidence.specs.DemandPrograms.{ListsBelow, demand_program, lower_program, upper_program}
use Rattle.rp_evidence.specs.Garp.{MeetsGarp}
use Rattle.rp_evidence.specs.Input.{TableInput, input_of_table}
use Rattle.rp_evidence.specs.declared.demand.Bound.{Bound}
use Rattle.rp_evidence.specs.declared.demand.Bound.TheVariants.{Shown, Wide}
use Rattle.rp_evidence.specs.declared.demand.GoodBounds.{GoodBounds}
use Rattle.rp_evidence.proofs.DemandBounds.{lower_is_infimum, mixtures, priced, upper_is_supremum}
use Rattle.rp_evidence.proofs.InnerDemand.{inner_demand_supports}
use Rattle.rp_farkas.specs.Listing.{numerator_at}
use Rattle.rp_table.specs.Cost.{cost_of}
use Rattle.rp_table.specs.NewPrices.{AreNewPrices}
use Rattle.rp_table.specs.Tables.{IsTable, Observations, goods_of, price_of, records_of}
use Rattle.rp_simplex.specs.ProgramBound.{IsBoundOf}
use Rattle.rp_support.specs.Bounds.{AreBoundsOf, AreMixed, Mixes}
use Rattle.rp_support.proofs.SupportPrices.{support_bounds}

-- ---- bounds in lowest terms

-- products with a fraction and with another that is the same number are in the same order
module _ (a b n d m e : ℕ) (d_some : 0 < d) (e_some : 0 < e) (same : m * d ≡ n * e) where
  below_there : a * e < m * b → a * d < n * b
  below_there h =
      let k : d * (a * e) < d * (m * b) = mul-lt-mul_of_pos_left h d_some in
      let q : m * d * b ≡ n * e * b = ap (λ z. z * b) same in
      let l : d * (m * b) ≡ e * (n * b) = omega (arith, q) in
      lt_of_mul-lt-mul_left e (omega (arith, k, l))

  above_there : m * b < a * e → n * b < a * d
  above_there h =
      let k : d * (m * b) < d * (a * e) = mul-lt-mul_of_pos_left h d_some in
      let q : m * d * b ≡ n * e * b = ap (λ z. z * b) same in
      let l : d * (m * b) ≡ e * (n * b) = omega (arith, q) in
      lt_of_mul-lt-mul_left e (omega (arith, k, l))

module _ (input : TableInput) (budget : BudgetInput) (g num den : ℕ) (value : Fraction) (lowest : IsLowestTerms num den value) where
  infimum_reduced : IsInfimum input budget g num den → IsInfimum input budget g value.num value.den
  infimum_reduced is = record {
    fraction = lowest.positive;
    none_less = λ bundle s less. is.none_less bundle s (below_there (bundle.num g) bundle.den num den value.num value.den is.fraction lowest.positive lowest.same_number less);
    approached = λ num' den' some greater.
        is.approached num' den' some (above_there num' den' num den value.num value.den is.fraction lowest.positive lowest.same_number greater);
  }

  supremum_reduced : IsSupremum input budget g num den → IsSupremum input budget g value.num value.den
  supremum_reduced is = record {
    fraction = lowest.positive;
    none_more = λ bundle s more. is.none_more bundle s (above_there (bundle.num g) bundle.den num den value.num value.den is.fraction lowest.positive lowest.same_number more);
    approached = λ num' den' some smaller.
        is.approached num' den' some (below_there num' den' num den value.num value.den is.fraction lowest.positive lowest.same_number smaller);
  }

-- ---- the inner demand

module _ (table : Observations) (prices : List ℕ) (m : ℕ) (valid : IsTable table) (new : AreNewPrices (goods_of table) prices)
    (sound : MeetsGarp (records_of table) (cost_of table)) where
  some_price : (t : ℕ) → t < records_of table → 0 < price_of table t 0
  some_price t t_in =
      let h = (valid.price_limits (t * goods_of table + 0) 0 (omega (arith, mul-add-lt t (goods_of table) 0 (records_of table) t_in (omega (arith, valid.some_goods)), valid.all_prices))).0 in
      omega (arith, h)

  some_price_of_good : (g : ℕ) → g < goods_of table → 0 < slice_index prices g
  some_price_of_good g g_in = let h = (new.fit g 0 (omega (arith, new.one_each))).0 in omega (arith, h)

  pub inner_supports : (bundle : FractionBundle) → IsInnerDemand (input_of_table table) (budget_of prices m) bundle → IsSupportingDemand (input_of_table table) (budget_of prices m) bundle
  inner_supports bundle inner =
      inner_demand_supports (input_of_table table) (budget_of prices m) sound (omega (arith, valid.some_goods)) (some_price_of_good 0 (omega (arith, valid.some_goods))) some_price bundle inner

  -- ---- shown bounds

  module _ (below : List ℕ) (lists : ListsBelow (input_of_table table) (budget_of prices m) below) (inner : FractionBundle) (kept : IsSupportingDemand (input_of_table table) (budget_of prices m) inner)
      (g : ℕ) (g_in : g < goods_of table) where
    pub proves_lower : (bound : Bound) → IsBoundOf (lower_program (input_of_table table) (budget_of prices m) below g) (λ x. x g) bound → ProvesLower (input_of_table table) (budget_of prices m) g bound
    proves_lower (Shown value pair) is =
        infimum_reduced (input_of_table table) (budget_of prices m) g (slice_index pair.x g) pair.den value is.value.1
        (lower_is_infimum (input_of_table table) (budget_of prices m) below lists sound inner kept g pair.den (numerator_at pair.y) (slice_index pair.x) g_in is.value.0.equal)
    proves_lower (Wide step) is = tt

    pub proves_upper : (bound : Bound) → IsBoundOf (upper_program (input_of_table table) (budget_of prices m) below g) (λ x. x g) bound → ProvesUpper (input_of_table table) (budget_of prices m) g bound
    proves_upper (Shown value pair) is =
        supremum_reduced (input_of_table table) (budget_of prices m) g (slice_index pair.x g) pair.den value is.value.1
        (upper_is_supremum (input_of_table table) (budget_of prices m) below lists sound inner kept g pair.den (numerator_at pair.y) (slice_index pair.x) g_in (some_price_of_good g g_in) is.value.0.equal)
    proves_upper (Wide step) is = tt

-- ---- mixtures, and bounded programs

module _ (input : TableInput) (budget : BudgetInput) (below : List ℕ) (lists : ListsBelow input budget below) (sound : MeetsGarp input.n input.cost)
    (inner : FractionBundle) (kept : IsSupportingDemand input budget inner) where
  pub mixes : (right : ℕ → ℤ) (measure : (ℕ → ℕ) → ℕ) (bound : Bound) → IsBoundOf (demand_program input budget below right) measure bound → Mixes input budget inner bound
  mixes right measure (Shown value pair) is = λ k some.
      mixtures input budget below lists sound inner kept right pair.den (slice_index pair.x)
      (priced input budget below right pair.den (slice_index pair.x) is.value.0.equal.prices) k some
  mixes right measure (Wide step) is = tt

  pub are_mixed : (goods : List GoodBounds) → AreBoundsOf input budget below goods → AreMixed input budget below inner goods
  are_mixed goods bounds = record {
    lower = λ g d g_in. mixes _ _ _ (bounds.lower g d g_in);
    upper = λ g d g_in. mixes _ _ _ (bounds.upper g d g_in);
    lower_bounded = λ g g_in. support_bounds input budget below lists _ (inner, kept);
    upper_bounded = λ g g_in. support_bounds input budget below lists _ (inner, kept);
  }
