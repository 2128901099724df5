-- What an item says of people: of consumers who choose the bundles of the table at its prices (sources at each kind of
-- theorem). What is withheld says nothing.
use Rattle.std.specs.Prelude.{ℕ, ◌<◌, ◌≤◌, List, slice_index, slice_index_or}
use Rattle.rp_evidence.specs.AfriatEvidence.{multiplier_in, utility_in}
use Rattle.rp_evidence.specs.Demand.{BudgetInput}
use Rattle.rp_evidence.specs.DemandEvidence.{budget_of, bundle_of}
use Rattle.rp_evidence.specs.Input.{TableInput}
use Rattle.rp_evidence.specs.declared.afriat.AfriatPart.{AfriatPart}
use Rattle.rp_evidence.specs.declared.afriat.AfriatPart.TheVariants.{Model, NoModel, Wide}
use Rattle.rp_evidence.specs.declared.certificate.Item.{Item}
use Rattle.rp_evidence.specs.declared.certificate.Item.TheVariants.{Garp as GarpItem, Afriat as AfriatItem}
use Rattle.rp_evidence.specs.declared.certificate.Item.TheVariants.{Efficiency as EfficiencyItem}
use Rattle.rp_evidence.specs.declared.certificate.Item.TheVariants.{Homothetic as HomotheticItem, Quasi as QuasiItem}
use Rattle.rp_evidence.specs.declared.certificate.Item.TheVariants.{Demand as DemandItem, Welfare as WelfareItem}
use Rattle.rp_evidence.specs.declared.certificate.Item.TheVariants.{Random as RandomItem}
use Rattle.rp_evidence.specs.declared.demand.Bound.{Bound}
use Rattle.rp_evidence.specs.declared.demand.Bound.TheVariants.{Shown, Wide as BoundWide}
use Rattle.rp_evidence.specs.declared.demand.DemandPart.{DemandPart}
use Rattle.rp_evidence.specs.declared.demand.DemandPart.TheVariants.{Bounds, NoModel as NoDemand}
use Rattle.rp_evidence.specs.declared.demand.GoodBounds.{GoodBounds}
use Rattle.rp_evidence.specs.declared.demand.Point.{Point}
use Rattle.rp_evidence.specs.declared.demand.WelfarePart.{WelfarePart}
use Rattle.rp_evidence.specs.declared.demand.WelfarePart.TheVariants.{Bounds as WelfareBounds, NoModel as NoWelfare}
use Rattle.rp_evidence.specs.declared.efficiency.Efficiency.{Efficiency}
use Rattle.rp_evidence.specs.declared.garp.Garp.{Garp}
use Rattle.rp_evidence.specs.declared.garp.Garp.TheVariants.{Cycle, Ranks}
use Rattle.rp_evidence.specs.declared.homothetic.Homothetic.{Homothetic}
use Rattle.rp_evidence.specs.declared.homothetic.Homothetic.TheVariants.{Cycle as Falling, Values, Withheld}
use Rattle.rp_evidence.specs.declared.quasilinear.Quasi.{Quasi}
use Rattle.rp_evidence.specs.declared.quasilinear.Quasi.TheVariants.{Cycle as Negative, Values as Numbers}
use Rattle.rp_people.specs.AfriatUtility.{HaveUtility}
use Rattle.rp_people.specs.BoughtBundles.{IsBoughtByUtility, IsInfimumBought, IsSupremumBought}
use Rattle.rp_people.specs.Choices.{Choices}
use Rattle.rp_people.specs.DividedLevels.{DividesLevels}
use Rattle.rp_people.specs.Money.{HasConcaveWorth, HasWorth}
use Rattle.rp_people.specs.Rationalizing.{HasConcaveUtility, HasHomogeneousUtility, HasNonsatiatedHomotheticPreference}
use Rattle.rp_people.specs.Rationalizing.{HasNonsatiatedPreference}
use Rattle.rp_people.specs.TableChoices.{choices_at, choices_of}
use Rattle.rp_people.specs.WelfareOfPeople.{BoundWelfareOfPeople}

-- Ranks: the preference of a strictly monotone and concave utility rationalizes the choices. A cycle: no locally
-- nonsatiated preference does.
abbrev pub SaysOfChoices : Choices → Garp → Type 0
SaysOfChoices choices (Ranks ranks) = HasConcaveUtility choices
SaysOfChoices choices (Cycle walk) = ¬ HasNonsatiatedPreference choices

-- A model: the utility of its numbers is strictly monotone and concave, and its preference rationalizes the choices. No
-- model: no locally nonsatiated preference does.
abbrev pub SaysAfriat : TableInput → AfriatPart → Type 0
SaysAfriat input (Model numbers) = HaveUtility (choices_of input) (utility_in numbers) (multiplier_in numbers)
SaysAfriat input (NoModel walk) = ¬ HasNonsatiatedPreference (choices_of input)
SaysAfriat input (Wide at) = Unit {0}

-- The index divides the levels; at the index some preference rationalizes the choices or none does.
abbrev pub SaysEfficiency : TableInput → Efficiency → Type 0
SaysEfficiency input evidence = DividesLevels input evidence.level.num evidence.level.den
    × SaysOfChoices (choices_at input evidence.level.num evidence.level.den) evidence.at

-- Values: the preference of a homogeneous, strictly monotone and concave utility rationalizes the choices. A cycle: no
-- homothetic and locally nonsatiated preference does.
abbrev pub SaysHomothetic : TableInput → Homothetic → Type 0
SaysHomothetic input (Values values) = HasHomogeneousUtility (choices_at input 1 1)
SaysHomothetic input (Falling start walk) = ¬ HasNonsatiatedHomotheticPreference (choices_at input 1 1)
SaysHomothetic input (Withheld steps from to) = Unit {0}

-- Values: a strictly monotone and concave function rationalizes the choices with money. A cycle: no function does.
abbrev pub SaysQuasilinear : TableInput → Quasi → Type 0
SaysQuasilinear input (Numbers values) = HasConcaveWorth (choices_at input 1 1)
SaysQuasilinear input (Negative walk) = ¬ HasWorth (choices_at input 1 1)

-- A shown bound of a good is that over all bundles that people buy whose preferences rationalize the table.
abbrev pub SaysLower : TableInput → BudgetInput → ℕ → Bound → Type 0
SaysLower input budget g (Shown value pair) = IsInfimumBought input budget g value.num value.den
SaysLower input budget g (BoundWide step) = Unit {0}

abbrev pub SaysUpper : TableInput → BudgetInput → ℕ → Bound → Type 0
SaysUpper input budget g (Shown value pair) = IsSupremumBought input budget g value.num value.den
SaysUpper input budget g (BoundWide step) = Unit {0}

-- The inner demand is bought by such a person, and each shown bound of a good is over all that such people buy.
pub record SaysDemandBounds (input : TableInput) (budget : BudgetInput) (inner : Point) (goods : List GoodBounds)
    : Type 0 where
  pub inner_bought : IsBoughtByUtility input budget (bundle_of inner)
  pub each : (g : ℕ) (d : GoodBounds) → g < input.goods
      → SaysLower input budget g (slice_index_or goods g d).lower
      × SaysUpper input budget g (slice_index_or goods g d).upper

-- None of these new prices is 0.
abbrev pub AreAboveZero : ℕ → List ℕ → Type 0
AreAboveZero goods prices = (g : ℕ) → g < goods → 1 ≤ slice_index prices g

-- Bounds: a strictly monotone and concave utility rationalizes the table, and, where no new price is 0, the bounds are
-- those of what such people buy. No model: no locally nonsatiated preference rationalizes it.
abbrev pub SaysDemand : TableInput → List ℕ → ℕ → DemandPart → Type 0
SaysDemand input prices m (Bounds below strict inner goods) = HasConcaveUtility (choices_at input 1 1)
    × (AreAboveZero input.goods prices → SaysDemandBounds input (budget_of prices m) inner goods)
SaysDemand input prices m (NoDemand walk) = ¬ HasNonsatiatedPreference (choices_at input 1 1)

-- Bounds: a strictly monotone and concave utility rationalizes the table, and the bounds hold for every person with a
-- locally nonsatiated preference that does. No model: no such preference does.
abbrev pub SaysWelfare : TableInput → List ℕ → ℕ → WelfarePart → Type 0
SaysWelfare input prices t (WelfareBounds upper at lower) = HasConcaveUtility (choices_at input 1 1)
    × BoundWelfareOfPeople input (slice_index prices) t upper at lower
SaysWelfare input prices t (NoWelfare walk) = ¬ HasNonsatiatedPreference (choices_at input 1 1)

-- The axiom and Afriat's numbers speak of choices held by the levels of the observations' own, where they have them;
-- every other item of all that was spent. A random item is about no table.
abbrev pub Says : TableInput → Item → Type 0
Says input (GarpItem verdict) = SaysOfChoices (choices_of input) verdict
Says input (AfriatItem part) = SaysAfriat input part
Says input (EfficiencyItem evidence) = SaysEfficiency input evidence
Says input (HomotheticItem verdict) = SaysHomothetic input verdict
Says input (QuasiItem verdict) = SaysQuasilinear input verdict
Says input (DemandItem prices m part) = SaysDemand input prices m part
Says input (WelfareItem prices of part) = SaysWelfare input prices of part
Says input (RandomItem total part) = Unit {0}

-- An item that is about new prices has none that is 0, so that an item on demand says what its bounds are.
abbrev pub HasPricesAboveZero : TableInput → Item → Type 0
HasPricesAboveZero input (DemandItem prices m part) = AreAboveZero input.goods prices
HasPricesAboveZero input (WelfareItem prices of part) = AreAboveZero input.goods prices
HasPricesAboveZero input _ = Unit {0}
