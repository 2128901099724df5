-- What is given as the bounds of goods: the price of each good that the runs of its two programs show (duality of
-- linear programming as in Gale, Kuhn and Tucker 1951).
use Rattle.std.specs.Prelude.{◌≡◌, ◌<◌, ℕ, List, length, slice_index, slice_index_or}
use Rattle.rp_simplex.specs.ProgramBound.{IsBoundOf}
use Rattle.rp_evidence.specs.Demand.{BudgetInput, FractionBundle, IsSupportingDemand, mixed}
use Rattle.rp_evidence.specs.DemandPrograms.{lower_program, upper_program}
use Rattle.rp_evidence.specs.Input.{TableInput}
use Rattle.rp_evidence.specs.declared.demand.Bound.{Bound}
use Rattle.rp_evidence.specs.declared.demand.Bound.TheVariants.{Shown, Wide}
use Rattle.rp_evidence.specs.declared.demand.GoodBounds.{GoodBounds}
use Rattle.rp_farkas.specs.Best.{HasNoBound}

-- One pair of bounds for each good, each of them that of its program on the price of the good.
pub record AreBoundsOf (input : TableInput) (budget : BudgetInput) (below : List ℕ)
    (goods : List GoodBounds) : Type 0 where
  pub one_each : length goods ≡ input.goods
  pub lower : (g : ℕ) (d : GoodBounds) → g < input.goods
      → IsBoundOf (lower_program input budget below g) (λ x. x g) (slice_index_or goods g d).lower
  pub upper : (g : ℕ) (d : GoodBounds) → g < input.goods
      → IsBoundOf (upper_program input budget below g) (λ x. x g) (slice_index_or goods g d).upper

-- Every mixture of the price side of a shown pair with this demand is a supporting demand, however little of the
-- demand it has.
abbrev pub Mixes : TableInput → BudgetInput → FractionBundle → Bound → Type 0
Mixes input budget inner (Shown value pair) = (k : ℕ) → 0 < k
    → IsSupportingDemand input budget (mixed k (record { den = pair.den; num = slice_index pair.x }) inner)
Mixes input budget inner (Wide step) = Unit {0}

-- So it is with the bounds of each good, and no program of theirs has feasible points that pass every value.
pub record AreMixed (input : TableInput) (budget : BudgetInput) (below : List ℕ) (inner : FractionBundle)
    (goods : List GoodBounds) : Type 0 where
  pub lower : (g : ℕ) (d : GoodBounds) → g < input.goods → Mixes input budget inner (slice_index_or goods g d).lower
  pub upper : (g : ℕ) (d : GoodBounds) → g < input.goods → Mixes input budget inner (slice_index_or goods g d).upper
  pub lower_bounded : (g : ℕ) → g < input.goods → ¬ HasNoBound (lower_program input budget below g)
  pub upper_bounded : (g : ℕ) → g < input.goods → ¬ HasNoBound (upper_program input budget below g)
