-- What evidence on demand at new prices and on welfare has to be to prove its verdict (Varian 1982).
use Rattle.std.specs.Prelude.{◌≡◌, ℕ, ◌<◌, ◌+◌, List, length, slice_index, slice_index_or, sum_by}
use Rattle.rp_evidence.specs.Demand.{BudgetInput, FractionBundle, IsInfimum, IsSupportingDemand, IsSupremum}
use Rattle.rp_evidence.specs.DemandPrograms.{ListsBelow, ListsStrictlyBelow}
use Rattle.rp_evidence.specs.Garp.{IsViolationAt, MeetsGarp}
use Rattle.rp_evidence.specs.Input.{TableInput}
use Rattle.rp_evidence.specs.Welfare.{IsLowerWelfare, IsUpperWelfare}
use Rattle.rp_evidence.specs.declared.demand.Bound.{Bound}
use Rattle.rp_evidence.specs.declared.demand.Bound.TheVariants.{Shown, Wide}
use Rattle.rp_evidence.specs.declared.demand.DemandPart.{DemandPart}
use Rattle.rp_evidence.specs.declared.demand.DemandPart.TheVariants.{Bounds, NoModel}
use Rattle.rp_evidence.specs.declared.demand.GoodBounds.{GoodBounds}
use Rattle.rp_evidence.specs.declared.demand.Point.{Point}
use Rattle.rp_evidence.specs.declared.demand.WelfarePart.{WelfarePart}
use Rattle.rp_evidence.specs.declared.demand.WelfarePart.TheVariants.{Bounds as WelfareBounds, NoModel as NoWelfare}

-- The bundle that a point writes.
abbrev pub bundle_of : Point → FractionBundle
bundle_of point = record { den = point.den; num = slice_index point.num }

-- The budget at listed prices.
abbrev pub budget_of : List ℕ → ℕ → BudgetInput
budget_of prices m = record { prices = slice_index prices; expenditure = m }

-- What a shown lower bound is; a withheld one claims nothing.
abbrev pub ProvesLower : TableInput → BudgetInput → ℕ → Bound → Type 0
ProvesLower input budget g (Shown value pair) = IsInfimum input budget g value.num value.den
ProvesLower input budget g (Wide step) = Unit {0}

-- What a shown upper bound is.
abbrev pub ProvesUpper : TableInput → BudgetInput → ℕ → Bound → Type 0
ProvesUpper input budget g (Shown value pair) = IsSupremum input budget g value.num value.den
ProvesUpper input budget g (Wide step) = Unit {0}

-- What both bounds of good g are.
abbrev pub ProvesGood : TableInput → BudgetInput → ℕ → GoodBounds → Type 0
ProvesGood input budget g bounds = ProvesLower input budget g bounds.lower × ProvesUpper input budget g bounds.upper

-- The axiom holds, the lists are those of the observations below and strictly below, the point is a supporting
-- demand, and each shown bound is the infimum or the supremum over supporting demands.
pub record ProvesDemandBounds (input : TableInput) (budget : BudgetInput) (below strict : List ℕ) (inner : Point)
    (goods : List GoodBounds) : Type 0 where
  pub sound : MeetsGarp input.n input.cost
  pub below_listed : ListsBelow input budget below
  pub strict_listed : ListsStrictlyBelow input budget strict
  pub inner_goods : length inner.num ≡ input.goods
  pub inner_supports : IsSupportingDemand input budget (bundle_of inner)
  pub one_each : length goods ≡ input.goods
  pub each : (g : ℕ) (d : GoodBounds) → g < input.goods → ProvesGood input budget g (slice_index_or goods g d)

-- Bounds prove their verdict where they are all that; a violation where it is one.
abbrev pub ProvesDemand : TableInput → List ℕ → ℕ → DemandPart → Type 0
ProvesDemand input prices m (Bounds below strict inner goods) =
    (length prices ≡ input.goods) × ProvesDemandBounds input (budget_of prices m) below strict inner goods
ProvesDemand input prices m (NoModel walk) = IsViolationAt input.n input.cost 1 1 walk

-- What a shown lower bound of welfare is; a withheld one claims nothing.
abbrev pub ProvesLowerWelfare : TableInput → (ℕ → ℕ) → ℕ → Bound → Type 0
ProvesLowerWelfare input prices t (Shown value pair) = IsLowerWelfare input prices t value.num value.den
ProvesLowerWelfare input prices t (Wide step) = Unit {0}

-- The axiom holds, the upper bound is that of welfare and stands at `at`, and a shown lower bound is that of welfare.
pub record ProvesWelfareBounds (input : TableInput) (prices : ℕ → ℕ) (t upper at : ℕ) (lower : Bound) : Type 0 where
  pub sound : MeetsGarp input.n input.cost
  pub observed : t < input.n
  pub upper_is : IsUpperWelfare input prices t at upper
  pub lower_is : ProvesLowerWelfare input prices t lower

-- Bounds prove their verdict where they are all that; a violation where it is one.
abbrev pub ProvesWelfare : TableInput → List ℕ → ℕ → WelfarePart → Type 0
ProvesWelfare input prices t (WelfareBounds upper at lower) =
    (length prices ≡ input.goods) × ProvesWelfareBounds input (slice_index prices) t upper at lower
ProvesWelfare input prices t (NoWelfare walk) = IsViolationAt input.n input.cost 1 1 walk

-- ---- how many bounds are withheld

abbrev pub withheld_bound : Bound → ℕ
withheld_bound (Shown value pair) = 0
withheld_bound (Wide step) = 1

abbrev pub withheld_good : GoodBounds → ℕ
withheld_good bounds = withheld_bound bounds.lower + withheld_bound bounds.upper

abbrev pub withheld_demand : DemandPart → ℕ
withheld_demand (Bounds below strict inner goods) = sum_by withheld_good goods
withheld_demand (NoModel walk) = 0

abbrev pub withheld_welfare : WelfarePart → ℕ
withheld_welfare (WelfareBounds upper at lower) = withheld_bound lower
withheld_welfare (NoWelfare walk) = 0
