-- What an item that is proved says of one preference, whatever relation that is (Varian 1982 and 1983; Afriat 1973):
-- where it says that none fits, this one does not, and where it bounds what people buy or what it is worth to them, it
-- bounds that of this one.
use Rattle.std.specs.Prelude.{ℕ, ◌*◌, ◌<◌, List, slice_index, slice_index_or}
use Rattle.rp_evidence.specs.Demand.{BudgetInput, FractionBundle, HasLess, HasMore}
use Rattle.rp_evidence.specs.DemandEvidence.{budget_of}
use Rattle.rp_evidence.specs.Garp.{MeetsGarpAt}
use Rattle.rp_evidence.specs.Input.{TableInput}
use Rattle.rp_evidence.specs.Preference.{IsLevel}
use Rattle.rp_evidence.specs.declared.afriat.AfriatPart.{AfriatPart}
use Rattle.rp_evidence.specs.declared.afriat.AfriatPart.TheVariants.{Model, NoModel, Wide}
use Rattle.rp_evidence.specs.declared.certificate.Item.{Item}
use Rattle.rp_evidence.specs.declared.certificate.Item.TheVariants.{Garp as GarpItem, Afriat as AfriatItem}
use Rattle.rp_evidence.specs.declared.certificate.Item.TheVariants.{Efficiency as EfficiencyItem}
use Rattle.rp_evidence.specs.declared.certificate.Item.TheVariants.{Homothetic as HomotheticItem, Quasi as QuasiItem}
use Rattle.rp_evidence.specs.declared.certificate.Item.TheVariants.{Demand as DemandItem, Welfare as WelfareItem}
use Rattle.rp_evidence.specs.declared.certificate.Item.TheVariants.{Random as RandomItem}
use Rattle.rp_evidence.specs.declared.demand.Bound.{Bound}
use Rattle.rp_evidence.specs.declared.demand.Bound.TheVariants.{Shown, Wide as BoundWide}
use Rattle.rp_evidence.specs.declared.demand.DemandPart.{DemandPart}
use Rattle.rp_evidence.specs.declared.demand.DemandPart.TheVariants.{Bounds, NoModel as NoDemand}
use Rattle.rp_evidence.specs.declared.demand.GoodBounds.{GoodBounds}
use Rattle.rp_evidence.specs.declared.demand.WelfarePart.{WelfarePart}
use Rattle.rp_evidence.specs.declared.demand.WelfarePart.TheVariants.{Bounds as WelfareBounds, NoModel as NoWelfare}
use Rattle.rp_evidence.specs.declared.efficiency.Efficiency.{Efficiency}
use Rattle.rp_evidence.specs.declared.garp.Garp.{Garp}
use Rattle.rp_evidence.specs.declared.garp.Garp.TheVariants.{Cycle, Ranks}
use Rattle.rp_evidence.specs.declared.homothetic.Homothetic.{Homothetic}
use Rattle.rp_evidence.specs.declared.homothetic.Homothetic.TheVariants.{Cycle as Falling, Values, Withheld}
use Rattle.rp_people.specs.BoughtBundles.{IsBoughtBy}
use Rattle.rp_people.specs.Choices.{Choices}
use Rattle.rp_people.specs.Rationalizing.{Fits, FitsHomothetically}
use Rattle.rp_people.specs.Says.{AreAboveZero}
use Rattle.rp_people.specs.TableChoices.{choices_at, choices_of}
use Rattle.rp_people.specs.WelfareOfPeople.{KeepsBounds}

-- A cycle: this preference does not fit the choices.
abbrev pub ChoicesOfOne : Choices → (FractionBundle → FractionBundle → Type 0) → Garp → Type 0
ChoicesOfOne choices prefers (Ranks ranks) = Unit {0}
ChoicesOfOne choices prefers (Cycle walk) = ¬ Fits choices prefers

abbrev pub AfriatOfOne : TableInput → (FractionBundle → FractionBundle → Type 0) → AfriatPart → Type 0
AfriatOfOne input prefers (Model numbers) = Unit {0}
AfriatOfOne input prefers (NoModel walk) = ¬ Fits (choices_of input) prefers
AfriatOfOne input prefers (Wide at) = Unit {0}

-- At each level above the index, up to 1, this preference does not fit, and at the index only where the axiom holds.
pub record EfficiencyOfOne (input : TableInput) (prefers : FractionBundle → FractionBundle → Type 0)
    (evidence : Efficiency) : Type 0 where
  pub not_above : (p q : ℕ) → IsLevel p q → evidence.level.num * q < p * evidence.level.den
      → ¬ Fits (choices_at input p q) prefers
  pub where_attained : Fits (choices_at input evidence.level.num evidence.level.den) prefers
      → MeetsGarpAt input.n input.cost evidence.level.num evidence.level.den
  pub at : ChoicesOfOne (choices_at input evidence.level.num evidence.level.den) prefers evidence.at

abbrev pub HomotheticOfOne : TableInput → (FractionBundle → FractionBundle → Type 0) → Homothetic → Type 0
HomotheticOfOne input prefers (Values values) = Unit {0}
HomotheticOfOne input prefers (Falling start walk) = ¬ FitsHomothetically (choices_at input 1 1) prefers
HomotheticOfOne input prefers (Withheld steps from to) = Unit {0}

-- Nothing that is bought by this preference has less, or more, of the good than a shown bound.
abbrev pub LowerOfOne : TableInput → BudgetInput → (FractionBundle → FractionBundle → Type 0) → ℕ → Bound → Type 0
LowerOfOne input budget prefers g (Shown value pair) = (x : FractionBundle) → IsBoughtBy input budget prefers x
    → ¬ HasLess x g value.num value.den
LowerOfOne input budget prefers g (BoundWide step) = Unit {0}

abbrev pub UpperOfOne : TableInput → BudgetInput → (FractionBundle → FractionBundle → Type 0) → ℕ → Bound → Type 0
UpperOfOne input budget prefers g (Shown value pair) = (x : FractionBundle) → IsBoughtBy input budget prefers x
    → ¬ HasMore x g value.num value.den
UpperOfOne input budget prefers g (BoundWide step) = Unit {0}

-- Bounds of each good, where no new price is 0. No model: this preference does not fit.
abbrev pub DemandOfOne : TableInput → (FractionBundle → FractionBundle → Type 0) → List ℕ → ℕ → DemandPart → Type 0
DemandOfOne input prefers prices m (Bounds below strict inner goods) = AreAboveZero input.goods prices
    → (g : ℕ) (d : GoodBounds) → g < input.goods
    → LowerOfOne input (budget_of prices m) prefers g (slice_index_or goods g d).lower
    × UpperOfOne input (budget_of prices m) prefers g (slice_index_or goods g d).upper
DemandOfOne input prefers prices m (NoDemand walk) = ¬ Fits (choices_at input 1 1) prefers

-- Bounds: where this preference fits, it keeps them. No model: it does not fit.
abbrev pub WelfareOfOne : TableInput → (FractionBundle → FractionBundle → Type 0) → List ℕ → ℕ → WelfarePart → Type 0
WelfareOfOne input prefers prices t (WelfareBounds upper at lower) = Fits (choices_at input 1 1) prefers
    → KeepsBounds input (slice_index prices) t at lower prefers
WelfareOfOne input prefers prices t (NoWelfare walk) = ¬ Fits (choices_at input 1 1) prefers

-- The quasilinear test speaks of every function of bundles, and of no preference; a random item is about no table.
abbrev pub SaysOfOne : TableInput → (FractionBundle → FractionBundle → Type 0) → Item → Type 0
SaysOfOne input prefers (GarpItem verdict) = ChoicesOfOne (choices_of input) prefers verdict
SaysOfOne input prefers (AfriatItem part) = AfriatOfOne input prefers part
SaysOfOne input prefers (EfficiencyItem evidence) = EfficiencyOfOne input prefers evidence
SaysOfOne input prefers (HomotheticItem verdict) = HomotheticOfOne input prefers verdict
SaysOfOne input prefers (QuasiItem verdict) = Unit {0}
SaysOfOne input prefers (DemandItem prices m part) = DemandOfOne input prefers prices m part
SaysOfOne input prefers (WelfareItem prices of part) = WelfareOfOne input prefers prices of part
SaysOfOne input prefers (RandomItem total part) = Unit {0}
