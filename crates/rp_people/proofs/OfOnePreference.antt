-- What is proved of an item says of one preference, whatever relation it is, what that kind of verdict says of it.
use Rattle.std.proofs.Common.{ℕ, ◌<◌, ◌≤◌, arith}
use Rattle.std.specs.Prelude.{List, slice_index_or, All, slice_index}
use Rattle.rp_evidence.specs.AfriatEvidence.{ProvesOwnAfriat}
use Rattle.rp_evidence.specs.Demand.{BudgetInput, FractionBundle}
use Rattle.rp_evidence.specs.DemandEvidence.{ProvesDemand, ProvesLower, ProvesUpper, ProvesWelfare, budget_of}
use Rattle.rp_evidence.specs.Efficiency.{ProvesEfficiency}
use Rattle.rp_evidence.specs.Garp.{ProvesOfPreference, ProvesOwnGarp}
use Rattle.rp_evidence.specs.Homothetic.{ProvesHomothetic}
use Rattle.rp_evidence.specs.Input.{TableInput}
use Rattle.rp_evidence.specs.Preference.{IsLevel, IsStrictAt, IsWeakAt}
use Rattle.rp_evidence.specs.Proves.{Proves}
use Rattle.rp_evidence.specs.declared.afriat.AfriatPart.{AfriatPart}
use Rattle.rp_evidence.specs.declared.afriat.AfriatPart.TheVariants.{Model, NoModel, Wide}
use Rattle.rp_evidence.specs.declared.certificate.Item.{Item}
use Rattle.rp_evidence.specs.declared.certificate.Item.TheVariants.{Garp as GarpItem, Afriat as AfriatItem}
use Rattle.rp_evidence.specs.declared.certificate.Item.TheVariants.{Efficiency as EfficiencyItem}
use Rattle.rp_evidence.specs.declared.certificate.Item.TheVariants.{Homothetic as HomotheticItem, Quasi as QuasiItem}
use Rattle.rp_evidence.specs.declared.certificate.Item.TheVariants.{Demand as DemandItem, Welfare as WelfareItem}
use Rattle.rp_evidence.specs.declared.certificate.Item.TheVariants.{Random as RandomItem}
use Rattle.rp_evidence.specs.declared.demand.Bound.{Bound}
use Rattle.rp_evidence.specs.declared.demand.Bound.TheVariants.{Shown, Wide as BoundWide}
use Rattle.rp_evidence.specs.declared.demand.DemandPart.{DemandPart}
use Rattle.rp_evidence.specs.declared.demand.DemandPart.TheVariants.{Bounds, NoModel as NoDemand}
use Rattle.rp_evidence.specs.declared.demand.WelfarePart.{WelfarePart}
use Rattle.rp_evidence.specs.declared.demand.WelfarePart.TheVariants.{Bounds as WelfareBounds, NoModel as NoWelfare}
use Rattle.rp_evidence.specs.declared.efficiency.Efficiency.{Efficiency}
use Rattle.rp_evidence.specs.declared.garp.Garp.{Garp}
use Rattle.rp_evidence.specs.declared.garp.Garp.TheVariants.{Cycle, Ranks}
use Rattle.rp_evidence.specs.declared.homothetic.Homothetic.{Homothetic}
use Rattle.rp_evidence.specs.declared.homothetic.Homothetic.TheVariants.{Cycle as Falling, Values, Withheld}
use Rattle.rp_people.specs.OfOnePreference.{AfriatOfOne, ChoicesOfOne, DemandOfOne, EfficiencyOfOne, HomotheticOfOne, LowerOfOne, SaysOfOne, UpperOfOne, WelfareOfOne}
use Rattle.rp_people.specs.TableChoices.{IsFullInput, choices_at, choices_of}
use Rattle.rp_people.proofs.Bought.{bought_by_is_supporting}
use Rattle.rp_people.proofs.SaysOfItems.{homothetic_of_one}
use Rattle.rp_people.proofs.TableLaws.{level_of_one, levels_of_one}
use Rattle.rp_people.proofs.WelfareBounds.{bounds_kept}

module _ (input : TableInput) (full : IsFullInput input) (prefers : FractionBundle → FractionBundle → Type 0) where
  of_garp : (verdict : Garp) → ProvesOwnGarp input.n input.levels input.cost verdict → ChoicesOfOne (choices_of input) prefers verdict
  of_garp (Ranks ranks) p = tt
  of_garp (Cycle walk) p = λ fits. levels_of_one input full prefers fits walk p

  of_afriat : (part : AfriatPart) → ProvesOwnAfriat input.n input.levels input.cost part → AfriatOfOne input prefers part
  of_afriat (Model numbers) p = tt
  of_afriat (NoModel walk) p = λ fits. levels_of_one input full prefers fits walk p
  of_afriat (Wide at) p = tt

  of_level : (num den : ℕ) → IsLevel num den → (verdict : Garp) → ProvesOfPreference input.n (IsWeakAt input.cost num den) (IsStrictAt input.cost num den) verdict → ChoicesOfOne (choices_at input num den) prefers verdict
  of_level num den level (Ranks ranks) p = tt
  of_level num den level (Cycle walk) p = λ fits. level_of_one input full num den level prefers fits walk p

  of_efficiency : (evidence : Efficiency) → ProvesEfficiency input.n input.cost evidence → EfficiencyOfOne input prefers evidence
  of_efficiency evidence p = record {
    not_above = λ q r level l fits. let f = p.index.fails_above q r level l in level_of_one input full q r level prefers fits f.0 f.1;
    where_attained = level_of_one input full evidence.level.num evidence.level.den p.index.level prefers;
    at = of_level evidence.level.num evidence.level.den p.index.level evidence.at p.at;
  }

  of_homothetic : (verdict : Homothetic) → ProvesHomothetic input.n input.cost verdict → HomotheticOfOne input prefers verdict
  of_homothetic (Values values) p = tt
  of_homothetic (Falling start walk) p = λ fits. not_below (homothetic_of_one input full prefers fits walk p.closed) p.falls
    where
      not_below : {a b : ℕ} → a ≤ b → ¬ (b < a)
      not_below l k = omega arith
  of_homothetic (Withheld steps from to) p = tt

  module _ (budget : BudgetInput) (positive : (g : ℕ) → g < input.goods → 1 ≤ budget.prices g) where
    of_lower : (g : ℕ) (bound : Bound) → ProvesLower input budget g bound → LowerOfOne input budget prefers g bound
    of_lower g (Shown value pair) p = λ x bought. p.none_less x (bought_by_is_supporting input budget x prefers full positive bought)
    of_lower g (BoundWide step) p = tt

    of_upper : (g : ℕ) (bound : Bound) → ProvesUpper input budget g bound → UpperOfOne input budget prefers g bound
    of_upper g (Shown value pair) p = λ x bought. p.none_more x (bought_by_is_supporting input budget x prefers full positive bought)
    of_upper g (BoundWide step) p = tt

  at_one : IsLevel 1 1
  at_one = (omega arith, omega arith)

  of_demand : (prices : List ℕ) (m : ℕ) (part : DemandPart) → ProvesDemand input prices m part → DemandOfOne input prefers prices m part
  of_demand prices m (Bounds below strict inner goods) p = λ positive g d l.
      let b = p.1.each g d l in (
        of_lower (budget_of prices m) positive g (slice_index_or goods g d).lower b.0,
        of_upper (budget_of prices m) positive g (slice_index_or goods g d).upper b.1,
      )
  of_demand prices m (NoDemand walk) p = λ fits. level_of_one input full 1 1 at_one prefers fits walk p

  of_welfare : (prices : List ℕ) (t : ℕ) (part : WelfarePart) → ProvesWelfare input prices t part → WelfareOfOne input prefers prices t part
  of_welfare prices t (WelfareBounds upper at lower) p = bounds_kept input (slice_index prices) t upper at lower prefers p.1
  of_welfare prices t (NoWelfare walk) p = λ fits. level_of_one input full 1 1 at_one prefers fits walk p

  pub says_of_one : (item : Item) → Proves input item → SaysOfOne input prefers item
  says_of_one (GarpItem verdict) p = of_garp verdict p
  says_of_one (AfriatItem part) p = of_afriat part p
  says_of_one (EfficiencyItem evidence) p = of_efficiency evidence p
  says_of_one (HomotheticItem verdict) p = of_homothetic verdict p
  says_of_one (QuasiItem verdict) p = tt
  says_of_one (DemandItem prices m part) p = of_demand prices m part p
  says_of_one (WelfareItem prices t part) p = of_welfare prices t part p
  says_of_one (RandomItem total part) p = tt

  pub all_say_of_one : (items : List Item) → All (Proves input) items → All (SaysOfOne input prefers) items
  all_say_of_one items all k d below = says_of_one (slice_index_or items k d) (all k d below)
