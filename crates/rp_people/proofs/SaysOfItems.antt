-- What is proved of an item says what that kind of verdict says of people.
use Rattle.std.proofs.Common.{ℕ, ◌<◌, ◌≤◌, arith}
use Rattle.std.specs.Prelude.{List, pos, slice_index_or, All, slice_index}
use Rattle.rp_evidence.specs.AfriatEvidence.{ProvesOwnAfriat, multiplier_in, utility_in}
use Rattle.rp_evidence.specs.Demand.{BudgetInput, FractionBundle}
use Rattle.rp_evidence.specs.DemandEvidence.{ProvesDemand, ProvesLower, ProvesUpper, ProvesWelfare, budget_of, bundle_of}
use Rattle.rp_evidence.specs.declared.demand.Bound.{Bound}
use Rattle.rp_evidence.specs.declared.demand.Bound.TheVariants.{Shown, Wide as BoundWide}
use Rattle.rp_evidence.specs.Efficiency.{IsEfficiencyIndex, ProvesEfficiency}
use Rattle.rp_evidence.specs.Garp.{ProvesOfPreference, ProvesOwnGarp}
use Rattle.rp_evidence.specs.Homothetic.{MeetsHomotheticTest, ProvesHomothetic, value_at}
use Rattle.rp_evidence.specs.Input.{TableInput}
use Rattle.rp_evidence.specs.Preference.{IsLevel, IsStrictAt, IsWeakAt}
use Rattle.rp_evidence.specs.Proves.{Proves}
use Rattle.rp_evidence.specs.Quasilinear.{MeetsQuasilinearTest, ProvesQuasilinear}
use Rattle.rp_evidence.specs.declared.afriat.AfriatPart.{AfriatPart}
use Rattle.rp_evidence.specs.declared.afriat.AfriatPart.TheVariants.{Model, NoModel, Wide}
use Rattle.rp_evidence.specs.declared.certificate.Item.{Item}
use Rattle.rp_evidence.specs.declared.certificate.Item.TheVariants.{Garp as GarpItem, Afriat as AfriatItem}
use Rattle.rp_evidence.specs.declared.certificate.Item.TheVariants.{Efficiency as EfficiencyItem}
use Rattle.rp_evidence.specs.declared.certificate.Item.TheVariants.{Homothetic as HomotheticItem, Quasi as QuasiItem}
use Rattle.rp_evidence.specs.declared.certificate.Item.TheVariants.{Demand as DemandItem, Welfare as WelfareItem}
use Rattle.rp_evidence.specs.declared.certificate.Item.TheVariants.{Random as RandomItem}
use Rattle.rp_evidence.specs.declared.demand.DemandPart.{DemandPart}
use Rattle.rp_evidence.specs.declared.demand.DemandPart.TheVariants.{Bounds, NoModel as NoDemand}
use Rattle.rp_evidence.specs.declared.demand.WelfarePart.{WelfarePart}
use Rattle.rp_evidence.specs.declared.demand.WelfarePart.TheVariants.{Bounds as WelfareBounds, NoModel as NoWelfare}
use Rattle.rp_evidence.specs.declared.efficiency.Efficiency.{Efficiency}
use Rattle.rp_evidence.specs.declared.garp.Garp.{Garp}
use Rattle.rp_evidence.specs.declared.garp.Garp.TheVariants.{Cycle, Ranks}
use Rattle.rp_evidence.specs.declared.homothetic.Homothetic.{Homothetic}
use Rattle.rp_evidence.specs.declared.homothetic.Homothetic.TheVariants.{Cycle as Falling, Values, Withheld}
use Rattle.rp_evidence.specs.declared.quasilinear.Quasi.{Quasi}
use Rattle.rp_evidence.specs.declared.quasilinear.Quasi.TheVariants.{Cycle as Negative, Values as Numbers}
use Rattle.rp_people.specs.DividedLevels.{DividesLevels}
use Rattle.rp_people.specs.Money.{HasWorth}
use Rattle.rp_people.specs.Preferences.{shown_by}
use Rattle.rp_people.specs.Rationalizing.{FitsHomothetically, HasNonsatiatedHomotheticPreference}
use Rattle.rp_people.specs.Says.{Says, SaysAfriat, SaysDemand, SaysEfficiency, SaysHomothetic, SaysLower, SaysOfChoices, SaysQuasilinear, SaysUpper, SaysWelfare}
use Rattle.rp_people.specs.TableChoices.{IsFullInput, choices_at, choices_of}
use Rattle.rp_people.proofs.Bought.{infimum_bought, supporting_is_bought_by_utility, supremum_bought}
use Rattle.rp_people.proofs.HomotheticChains.{meets_test}
use Rattle.rp_people.proofs.MoneyLaws.{numbers_give_worth, worth_meets_test}
use Rattle.rp_people.proofs.TableLaws.{at_level, by_levels, own_model_utility}
use Rattle.rp_people.proofs.Values.{values_give_utility}
use Rattle.rp_people.proofs.WelfareBounds.{bounds_hold}

pub homothetic_of_one : (input : TableInput) → IsFullInput input → (prefers : FractionBundle → FractionBundle → Type 0) → FitsHomothetically (choices_at input 1 1) prefers → MeetsHomotheticTest input.n input.cost
homothetic_of_one input full prefers fits = meets_test input full prefers fits.transitive fits.nonsatiated fits.homothetic fits.rationalizes

pub homothetic_meets : (input : TableInput) → IsFullInput input → HasNonsatiatedHomotheticPreference (choices_at input 1 1) → MeetsHomotheticTest input.n input.cost
homothetic_meets input full has = homothetic_of_one input full (shown_by has.passes) has.fits

pub worth_meets : (input : TableInput) → HasWorth (choices_at input 1 1) → MeetsQuasilinearTest input.n input.cost
worth_meets input has = worth_meets_test input has.worth has.rationalizes

module _ (input : TableInput) (full : IsFullInput input) where
  says_garp : (verdict : Garp) → ProvesOwnGarp input.n input.levels input.cost verdict → SaysOfChoices (choices_of input) verdict
  says_garp (Ranks ranks) p = (by_levels input full).utility.1 p.1
  says_garp (Cycle walk) p = λ has. (by_levels input full).nonsatiated.0 has walk p

  says_afriat : (part : AfriatPart) → ProvesOwnAfriat input.n input.levels input.cost part → SaysAfriat input part
  says_afriat (Model numbers) p = own_model_utility input full (utility_in numbers) (multiplier_in numbers) p.1
  says_afriat (NoModel walk) p = λ has. (by_levels input full).nonsatiated.0 has walk p
  says_afriat (Wide at) p = tt

  pub divides : (num den : ℕ) → IsEfficiencyIndex input.n input.cost num den → DividesLevels input num den
  divides num den index = record {
    utility_below = λ p q level l. (at_level input full p q level).utility.1 (index.holds_below p q level l);
    none_above = λ p q level l has. let f = index.fails_above p q level l in (at_level input full p q level).nonsatiated.0 has f.0 f.1;
    nonsatiated_where_attained = (at_level input full num den index.level).nonsatiated;
    preference_where_attained = (at_level input full num den index.level).preference;
    utility_where_attained = (at_level input full num den index.level).utility;
  }

  says_at : (num den : ℕ) → IsLevel num den → (verdict : Garp) → ProvesOfPreference input.n (IsWeakAt input.cost num den) (IsStrictAt input.cost num den) verdict → SaysOfChoices (choices_at input num den) verdict
  says_at num den level (Ranks ranks) p = (at_level input full num den level).utility.1 p.1
  says_at num den level (Cycle walk) p = λ has. (at_level input full num den level).nonsatiated.0 has walk p

  says_efficiency : (evidence : Efficiency) → ProvesEfficiency input.n input.cost evidence → SaysEfficiency input evidence
  says_efficiency evidence p = (divides evidence.level.num evidence.level.den p.index, says_at evidence.level.num evidence.level.den p.index.level evidence.at p.at)

  says_homothetic : (verdict : Homothetic) → ProvesHomothetic input.n input.cost verdict → SaysHomothetic input verdict
  says_homothetic (Values values) p =
      values_give_utility input full (λ s. (value_at values s).num) (λ s. (value_at values s).den) (record { positive = p.0.positive; each = p.0.each })
  says_homothetic (Falling start walk) p = λ has. not_below (homothetic_meets input full has walk p.closed) p.falls
    where
      not_below : {a b : ℕ} → a ≤ b → ¬ (b < a)
      not_below l k = omega arith
  says_homothetic (Withheld steps from to) p = tt

  says_quasilinear : (verdict : Quasi) → ProvesQuasilinear input.n input.cost verdict → SaysQuasilinear input verdict
  says_quasilinear (Numbers values) p = numbers_give_worth input full (λ s. slice_index_or values s (pos 0)) p.0.each
  says_quasilinear (Negative walk) p = λ has. worth_meets input has walk p

  at_one : IsLevel 1 1
  at_one = (omega arith, omega arith)

  module _ (budget : BudgetInput) (positive : (g : ℕ) → g < input.goods → 1 ≤ budget.prices g) where
    says_lower : (g : ℕ) (bound : Bound) → ProvesLower input budget g bound → SaysLower input budget g bound
    says_lower g (Shown value pair) p = infimum_bought input budget full positive g value.num value.den p
    says_lower g (BoundWide step) p = tt

    says_upper : (g : ℕ) (bound : Bound) → ProvesUpper input budget g bound → SaysUpper input budget g bound
    says_upper g (Shown value pair) p = supremum_bought input budget full positive g value.num value.den p
    says_upper g (BoundWide step) p = tt

  says_demand : (prices : List ℕ) (m : ℕ) (part : DemandPart) → ProvesDemand input prices m part → SaysDemand input prices m part
  says_demand prices m (Bounds below strict inner goods) p = (
    (at_level input full 1 1 at_one).utility.1 p.1.sound,
    λ positive. record {
      inner_bought = supporting_is_bought_by_utility input (budget_of prices m) (bundle_of inner) full positive p.1.inner_supports;
      each = λ g d l. let b = p.1.each g d l in (
        says_lower (budget_of prices m) positive g (slice_index_or goods g d).lower b.0,
        says_upper (budget_of prices m) positive g (slice_index_or goods g d).upper b.1,
      );
    },
  )
  says_demand prices m (NoDemand walk) p = λ has. (at_level input full 1 1 at_one).nonsatiated.0 has walk p

  says_welfare : (prices : List ℕ) (of : ℕ) (part : WelfarePart) → ProvesWelfare input prices of part → SaysWelfare input prices of part
  says_welfare prices of (WelfareBounds upper at lower) p = ((at_level input full 1 1 at_one).utility.1 p.1.sound, bounds_hold input (slice_index prices) of upper at lower p.1)
  says_welfare prices of (NoWelfare walk) p = λ has. (at_level input full 1 1 at_one).nonsatiated.0 has walk p

  pub says : (item : Item) → Proves input item → Says input item
  says (GarpItem verdict) p = says_garp verdict p
  says (AfriatItem part) p = says_afriat part p
  says (EfficiencyItem evidence) p = says_efficiency evidence p
  says (HomotheticItem verdict) p = says_homothetic verdict p
  says (QuasiItem verdict) p = says_quasilinear verdict p
  says (DemandItem prices m part) p = says_demand prices m part p
  says (WelfareItem prices of part) p = says_welfare prices of part p
  says (RandomItem total part) p = tt

  pub all_say : (items : List Item) → All (Proves input) items → All (Says input) items
  all_say items all k d below = says (slice_index_or items k d) (all k d below)
