-- Demand at new prices that a table supports (Varian 1982, on forecasting demand; with fractions of goods): the
-- bundles on a new budget with which the table still meets the generalized axiom, and how much of a good they can
-- have.
use Rattle.std.specs.Prelude.{◌≡◌, ℕ, ◌+◌, ◌*◌, ◌-◌, ◌<◌, ◌≤◌, ◌⊎◌, ◌==◌, List, slice_index, if◌then◌else◌, nat_lt}
pub use Rattle.rp_table.specs.Spending.{spending}
use Rattle.rp_evidence.specs.Count.{AreCounts}
use Rattle.rp_evidence.specs.Garp.{MeetsGarp}
use Rattle.rp_evidence.specs.Input.{TableInput}
use Rattle.rp_evidence.specs.Preference.{IsWeak, IsStrict}
use Rattle.rp_evidence.specs.Walk.{IsWalk, HasStep}

-- A budget at which no choice was seen yet: the price of each good, and what is spent.
pub record BudgetInput : Type 0 where
  pub prices : ℕ → ℕ
  pub expenditure : ℕ

-- A bundle in fractions: num g / den of each good g.
pub record FractionBundle : Type 0 where
  pub den : ℕ
  pub num : ℕ → ℕ

-- What bundle t costs at the prices of s, times the bundle's denominator, where the bundle is observation n, bought
-- with the new budget.
abbrev pub enlarged : TableInput → BudgetInput → FractionBundle → ℕ → ℕ → ℕ
enlarged input budget bundle s t =
    if nat_lt s input.n
    then (if nat_lt t input.n then bundle.den * input.cost s t else spending input.goods (input.price s) bundle.num)
    else (if nat_lt t input.n then bundle.den * spending input.goods budget.prices (input.quantity t)
    else bundle.den * budget.expenditure)

-- The bundle is on the budget: it costs just what is spent.
pub record IsOnBudget (input : TableInput) (budget : BudgetInput) (bundle : FractionBundle) : Type 0 where
  pub fraction : 0 < bundle.den
  pub spent : spending input.goods budget.prices bundle.num ≡ bundle.den * budget.expenditure

-- A supporting demand: the table with this bundle added, bought with the new budget, meets the axiom.
pub record IsSupportingDemand (input : TableInput) (budget : BudgetInput) (bundle : FractionBundle) : Type 0 where
  pub on_budget : IsOnBudget input budget bundle
  pub meets : MeetsGarp (input.n + 1) (enlarged input budget bundle)

-- ---- which observations the new budget is preferred to

-- The new budget buys the bundle of observation s.
abbrev pub Buys : TableInput → BudgetInput → ℕ → Type 0
Buys input budget s = spending input.goods budget.prices (input.quantity s) ≤ budget.expenditure

-- It buys that bundle, and money is left.
abbrev pub BuysWithRest : TableInput → BudgetInput → ℕ → Type 0
BuysWithRest input budget s = spending input.goods budget.prices (input.quantity s) < budget.expenditure

-- Observation t is below: from a bundle that the budget buys a walk of weak steps, or of no step, leads to it.
pub record IsBelow (input : TableInput) (budget : BudgetInput) (t : ℕ) : Type 0 where
  pub from : ℕ
  pub walk : List ℕ
  pub bought : Buys input budget from
  pub leads : IsWalk input.n (IsWeak input.cost) from t walk

-- It is strictly below: moreover money is left for that bundle, or the walk has a strict step.
pub record IsStrictlyBelow (input : TableInput) (budget : BudgetInput) (t : ℕ) : Type 0 where
  pub from : ℕ
  pub walk : List ℕ
  pub bought : Buys input budget from
  pub leads : IsWalk input.n (IsWeak input.cost) from t walk
  pub strict : BuysWithRest input budget from ⊎ HasStep (IsStrict input.cost) walk

-- A walk from v on makes what it leads to strictly below: money is left for the bundle of v, or an observation below is
-- strictly preferred to v.
abbrev pub IsStrictStart : TableInput → BudgetInput → ℕ → Type 0
IsStrictStart input budget v =
    BuysWithRest input budget v ⊎ ((u : ℕ) × (u < input.n) × IsBelow input budget u × IsStrict input.cost u v)

-- The bundle costs at least what was spent at each observation below.
abbrev pub CostsEnough : TableInput → BudgetInput → FractionBundle → Type 0
CostsEnough input budget bundle = (t : ℕ) → t < input.n → IsBelow input budget t
    → bundle.den * input.cost t t ≤ spending input.goods (input.price t) bundle.num

-- The bundle costs more than what was spent at each observation strictly below.
abbrev pub CostsMore : TableInput → BudgetInput → FractionBundle → Type 0
CostsMore input budget bundle = (t : ℕ) → t < input.n → IsStrictlyBelow input budget t
    → bundle.den * input.cost t t < spending input.goods (input.price t) bundle.num

-- ---- one demand that is always there (this project's own choice)

-- s is the bundle to begin from: of those that the budget buys one of the greatest count, of these one of the least
-- cost at the new prices, and of these the first.
pub record IsInnerStart (input : TableInput) (budget : BudgetInput) (counts : List ℕ) (s : ℕ) : Type 0 where
  pub observed : s < input.n
  pub bought : Buys input budget s
  pub greatest : (t : ℕ) → t < input.n → Buys input budget t → slice_index counts t ≤ slice_index counts s
  pub cheapest : (t : ℕ) → t < input.n → Buys input budget t → slice_index counts t ≡ slice_index counts s
      → spending input.goods budget.prices (input.quantity s) ≤ spending input.goods budget.prices (input.quantity t)
  pub first : (t : ℕ) → t < s → Buys input budget t → slice_index counts t ≡ slice_index counts s
      → spending input.goods budget.prices (input.quantity s) < spending input.goods budget.prices (input.quantity t)

-- The bundle of s, and what is left of the money spent on good 0; over the price of good 0.
abbrev pub with_rest_on_first : TableInput → BudgetInput → ℕ → ℕ → ℕ
with_rest_on_first input budget s g =
    budget.prices 0 * input.quantity s g
    + (if g == 0 then budget.expenditure - spending input.goods budget.prices (input.quantity s) else 0)

-- All money spent on good 0; over the price of good 0.
abbrev pub all_on_first : BudgetInput → ℕ → ℕ
all_on_first budget g = if g == 0 then budget.expenditure else 0

-- The inner demand: from the bundle to begin from, or all on good 0 where the budget buys no bundle of the table.
pub record IsInnerDemand (input : TableInput) (budget : BudgetInput) (bundle : FractionBundle) : Type 0 where
  pub over : bundle.den ≡ budget.prices 0
  pub parts :
      ((s : ℕ) × (counts : List ℕ) × AreCounts input.n (IsWeak input.cost) counts
      × IsInnerStart input budget counts s
      × ((g : ℕ) → g < input.goods → bundle.num g ≡ with_rest_on_first input budget s g))
      ⊎ (((s : ℕ) → s < input.n → ¬ Buys input budget s)
      × ((g : ℕ) → g < input.goods → bundle.num g ≡ all_on_first budget g))

-- Some demand supports: the set of supporting demands is not empty.
abbrev pub HasSupport : TableInput → BudgetInput → Type 0
HasSupport input budget = (bundle : FractionBundle) × IsSupportingDemand input budget bundle

-- There is an inner demand, and it is a supporting demand.
abbrev pub HasInnerSupport : TableInput → BudgetInput → Type 0
HasInnerSupport input budget = (bundle : FractionBundle) × IsInnerDemand input budget bundle
    × IsSupportingDemand input budget bundle

-- ---- how much of a good supporting demands have

-- The bundle has less of good g than num/den, and more.
abbrev pub HasLess : FractionBundle → ℕ → ℕ → ℕ → Type 0
HasLess bundle g num den = bundle.num g * den < num * bundle.den

abbrev pub HasMore : FractionBundle → ℕ → ℕ → ℕ → Type 0
HasMore bundle g num den = num * bundle.den < bundle.num g * den

-- num/den is the infimum of good g over all supporting demands: none has less, and of any greater fraction some has
-- less.
pub record IsInfimum (input : TableInput) (budget : BudgetInput) (g num den : ℕ) : Type 0 where
  pub fraction : 0 < den
  pub none_less : (bundle : FractionBundle) → IsSupportingDemand input budget bundle → ¬ HasLess bundle g num den
  pub approached : (num' den' : ℕ) → 0 < den' → num * den' < num' * den
      → (bundle : FractionBundle) × IsSupportingDemand input budget bundle × HasLess bundle g num' den'

-- num/den is the supremum of good g over all supporting demands: none has more, and of any smaller fraction some has
-- more.
pub record IsSupremum (input : TableInput) (budget : BudgetInput) (g num den : ℕ) : Type 0 where
  pub fraction : 0 < den
  pub none_more : (bundle : FractionBundle) → IsSupportingDemand input budget bundle → ¬ HasMore bundle g num den
  pub approached : (num' den' : ℕ) → 0 < den' → num' * den < num * den'
      → (bundle : FractionBundle) × IsSupportingDemand input budget bundle × HasMore bundle g num' den'

-- The bundle ((k - 1) * x + z) / k.
abbrev pub mixed : ℕ → FractionBundle → FractionBundle → FractionBundle
mixed k x z = record {
  den = k * (x.den * z.den);
  num = λ g. (k - 1) * (z.den * x.num g) + x.den * z.num g;
}
