-- Bounds on what an output costs at new prices (Varian 1984): when evidence on them holds, what it proves, and what is
-- given.
use Rattle.std.specs.Prelude.{◌≡◌, ℕ, ◌*◌, ◌<◌, ◌≤◌, Bool, List, [], Option, Some, None, length, slice_index}
use Rattle.rp_simplex.specs.ProgramBound.{IsBoundOf}
use Rattle.rp_evidence.specs.BoundEvidence.{BoundHolds}
use Rattle.rp_evidence.specs.Demand.{FractionBundle, spending}
use Rattle.rp_evidence.specs.Input.{TableInput}
use Rattle.rp_evidence.specs.LeastCost.{least_cost_program}
use Rattle.rp_evidence.specs.WelfareModels.{CostsAtLeast, bundle_at}
use Rattle.rp_evidence.specs.declared.demand.Bound.{Bound}
use Rattle.rp_evidence.specs.declared.demand.Bound.TheVariants.{Shown, Wide}
use Rattle.rp_farkas.specs.declared.entry.Pair.{Pair}
use Rattle.rp_num.specs.Fraction.{Fraction}
use Rattle.rp_people.specs.Bundles.{IsBundle}
use Rattle.rp_producers.specs.OuterSet.{IsLowerCost, IsUpperCost, ListsNotAbove, NoneMakes}
use Rattle.rp_producers.specs.RequirementSets.{AreRequirementSets, RationalizeCost, sets_by}
use Rattle.rp_cost.specs.declared.bounds.CostBounds.{CostBounds}
use Rattle.rp_cost.specs.declared.upper.Upper.{Upper}

module _ (input : TableInput) (y : ℕ → ℕ) (y0 : ℕ) (prices : ℕ → ℕ) where
  -- ---- when evidence holds

  -- the cost from above is that of an observation which has it, or there is none
  abbrev pub UpperHolds : Option Upper → Type 0
  UpperHolds None = NoneMakes input y y0
  UpperHolds (Some upper) = IsUpperCost input y y0 prices upper.at upper.cost

  -- a shown cost from below is what the price side costs in an equal pair of the program of least cost, with inputs in
  -- place of goods, over the observations that made y0 or less; a withheld one claims nothing
  abbrev pub LowerHolds : Bound → Type 0
  LowerHolds lower = (listed : List ℕ) × ListsNotAbove input y y0 listed
      × BoundHolds (least_cost_program input prices listed) (spending input.goods prices) lower

  pub record BoundsHold (bounds : CostBounds) : Type 0 where
    pub upper : UpperHolds bounds.upper
    pub lower : LowerHolds bounds.lower

  -- ---- what it proves

  abbrev pub ProvesLowerCost : Bound → Type 0
  ProvesLowerCost (Shown value pair) = IsLowerCost input y y0 prices value.num value.den
  ProvesLowerCost (Wide step) = Unit {0}

  pub record ProvesCostBounds (bounds : CostBounds) : Type 0 where
    pub upper : UpperHolds bounds.upper
    pub lower : ProvesLowerCost bounds.lower

  -- ---- what is given

  -- the upper bound, and s is the first observation that has it
  pub record IsFirstUpper (s cost : ℕ) : Type 0 where
    pub upper : IsUpperCost input y y0 prices s cost
    pub first : (r : ℕ) → r < s → y0 ≤ y r → cost < spending input.goods prices (input.quantity r)

  abbrev pub IsUpperCostBound : Option Upper → Type 0
  IsUpperCostBound None = NoneMakes input y y0
  IsUpperCostBound (Some upper) = IsFirstUpper upper.at upper.cost

  -- the bound of that program on what its price side costs, by the run
  pub record IsLowerCostBound (lower : Bound) : Type 0 where
    pub listed : List ℕ
    pub lists : ListsNotAbove input y y0 listed
    pub is_bound : IsBoundOf (least_cost_program input prices listed) (spending input.goods prices) lower

  pub record AreCostBounds (bounds : CostBounds) : Type 0 where
    pub upper : IsUpperCostBound bounds.upper
    pub lower : IsLowerCostBound bounds.lower

  -- ---- what it says of producers

  -- the inputs of the upper bound's observation suffice for y0
  abbrev pub SufficesAt : (ℕ → FractionBundle → Type 0) → Option Upper → Type 0
  SufficesAt suffices None = Unit {0}
  SufficesAt suffices (Some upper) = suffices y0 (bundle_at input upper.at)

  -- by all nested and disposable requirement sets that rationalize what was seen, what suffices for y0 costs at least a
  -- shown bound from below at the new prices, and the inputs of the observation of the one from above suffice for it
  pub record BoundProducers (bounds : CostBounds) : Type 0 where
    pub none_cheaper : (passes : ℕ → FractionBundle → (ℕ → ℕ) → Bool)
        → AreRequirementSets input.goods (sets_by passes) → RationalizeCost input y (sets_by passes)
        → (x : FractionBundle) → IsBundle x → sets_by passes y0 x → CostsAtLeast input prices x bounds.lower
    pub enough : (passes : ℕ → FractionBundle → (ℕ → ℕ) → Bool)
        → AreRequirementSets input.goods (sets_by passes) → RationalizeCost input y (sets_by passes)
        → SufficesAt (sets_by passes) bounds.upper

-- A shown bound from below is at most the one from above, where there is one.
abbrev pub IsAtMostUpper : Bound → Option Upper → Type 0
IsAtMostUpper lower None = Unit {0}
IsAtMostUpper (Shown value pair) (Some upper) = value.num ≤ upper.cost * value.den
IsAtMostUpper (Wide step) (Some upper) = Unit {0}

-- Nothing is spent: every input is 0 over 1, with no column of the program.
pub record IsNothing (inputs : ℕ) (value : Fraction) (pair : Pair) : Type 0 where
  pub no_cost : value.num ≡ 0
  pub over_one : value.den ≡ 1
  pub den : pair.den ≡ 1
  pub no_entry : pair.y ≡ []
  pub each : length pair.x ≡ inputs
  pub no_input : (i : ℕ) → i < inputs → slice_index pair.x i ≡ 0

abbrev pub ShowsNothing : ℕ → Bound → Type 0
ShowsNothing inputs (Shown value pair) = IsNothing inputs value pair
ShowsNothing inputs (Wide step) = ⊥
