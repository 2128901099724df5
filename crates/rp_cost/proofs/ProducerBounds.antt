-- The axioms in terms of requirement sets and production sets, and the bounds of every producer's cost.
use borrow.Author.Differences.{up, down}
use Rattle.std.proofs.Common.{◌≡◌, ◌+◌, ◌↔◌, ℕ, inl, inr, Option, Some, None, refl, arith}
use Rattle.std.proofs.lemmas.Bool.{cases_lt}
use Rattle.std.proofs.lemmas.Int.{ints}
use Rattle.std.specs.Prelude.{ℤ, ◌<ℤ◌, ◌≤ℤ◌}
use Rattle.rp_evidence.specs.Demand.{FractionBundle}
use Rattle.rp_evidence.specs.Input.{TableInput}
use Rattle.rp_evidence.specs.WelfareModels.{CostsAtLeast}
use Rattle.rp_evidence.specs.declared.demand.Bound.{Bound}
use Rattle.rp_evidence.specs.declared.demand.Bound.TheVariants.{Shown, Wide}
use Rattle.rp_people.specs.Bundles.{IsBundle}
use Rattle.rp_producers.specs.CostAxiom.{BreaksCostAxiom, MeetsCostAxiom}
use Rattle.rp_producers.specs.ProductionSets.{HasConvexProductionSet, HasProductionSet}
use Rattle.rp_producers.specs.ProfitAxiom.{BreaksProfitAxiom, MeetsProfitAxiom, profit}
use Rattle.rp_producers.specs.RequirementSets.{AreRequirementSets, HasConvexRequirementSets, HasRequirementSets, RationalizeCost, sets_by}
use Rattle.rp_producers.proofs.Producers.{convex_cost_sets, convex_profit_sets, cost_sets, enough_suffices, profit_sets, sufficing_is_outer}
use Rattle.rp_cost.specs.Axioms.{AreFirstBroken}
use Rattle.rp_cost.specs.CostBounds.{BoundProducers, IsUpperCostBound, ProvesLowerCost, SufficesAt}
use Rattle.rp_cost.specs.declared.axioms.Axiom.{Axiom}
use Rattle.rp_cost.specs.declared.axioms.Axiom.TheVariants.{Holds, Pair}
use Rattle.rp_cost.specs.declared.upper.Upper.{Upper}

-- ---- the axioms

through : {A B C : Type 0} → A ↔ B → C ↔ B → A ↔ C
through h k = (λ a. k.1 (h.0 a), λ c. h.1 (k.0 c))

not_less : (a b : ℤ) → ¬ (a <ℤ b) → b ≤ℤ a
not_less a b none = elim (cases_lt (up a + down b) (up b + down a)) [ inl l ↦ absurd (none (omega (arith, ints))) | inr l ↦ omega (arith, ints) ]

less_again : (a b : ℤ) → b ≤ℤ a → ¬ (a <ℤ b)
less_again a b h l = omega (arith, ints)

cost_where : (n : ℕ) (cost : ℕ → ℕ → ℕ) (y : ℕ → ℕ) (verdict : Axiom) → AreFirstBroken n (BreaksCostAxiom cost y) verdict → (verdict ≡ Holds) ↔ MeetsCostAxiom n cost y
cost_where n cost y Holds none = (
  λ e t s a b less. elim (cases_lt (cost t s) (cost t t)) [ inl l ↦ absurd (none t s a b (less, l)) | inr l ↦ l ],
  λ meets. refl,
)
cost_where n cost y (Pair first second) found = (
  λ e. absurd cc,
  λ meets. let l = meets first second found.first found.second found.related.0 in let k = found.related.1 in absurd (omega arith),
)

profit_where : (n : ℕ) (cost : ℕ → ℕ → ℕ) (y p : ℕ → ℕ) (verdict : Axiom) → AreFirstBroken n (BreaksProfitAxiom cost y p) verdict → (verdict ≡ Holds) ↔ MeetsProfitAxiom n cost y p
profit_where n cost y p Holds none = (
  λ e t s a b. not_less (profit cost y p t t) (profit cost y p t s) (none t s a b),
  λ meets. refl,
)
profit_where n cost y p (Pair first second) found = (
  λ e. absurd cc,
  λ meets. absurd (less_again (profit cost y p first first) (profit cost y p first second) (meets first second found.first found.second) found.related),
)

pub cost_sets_where : (input : TableInput) (y : ℕ → ℕ) (verdict : Axiom) → AreFirstBroken input.n (BreaksCostAxiom input.cost y) verdict → (verdict ≡ Holds) ↔ HasRequirementSets input y
cost_sets_where input y verdict first = through (cost_where input.n input.cost y verdict first) (cost_sets input y)

pub profit_sets_where : (input : TableInput) (y p : ℕ → ℕ) (verdict : Axiom) → AreFirstBroken input.n (BreaksProfitAxiom input.cost y p) verdict → (verdict ≡ Holds) ↔ HasProductionSet input y p
profit_sets_where input y p verdict first = through (profit_where input.n input.cost y p verdict first) (profit_sets input y p)

pub convex_cost_sets_where : (input : TableInput) (y : ℕ → ℕ) (verdict : Axiom) → AreFirstBroken input.n (BreaksCostAxiom input.cost y) verdict → (verdict ≡ Holds) ↔ HasConvexRequirementSets input y
convex_cost_sets_where input y verdict first = through (cost_where input.n input.cost y verdict first) (convex_cost_sets input y)

pub convex_profit_sets_where : (input : TableInput) (y p : ℕ → ℕ) (verdict : Axiom) → AreFirstBroken input.n (BreaksProfitAxiom input.cost y p) verdict → (verdict ≡ Holds) ↔ HasConvexProductionSet input y p
convex_profit_sets_where input y p verdict first = through (profit_where input.n input.cost y p verdict first) (convex_profit_sets input y p)

-- ---- the bounds

module _ (input : TableInput) (y : ℕ → ℕ) (y0 : ℕ) (prices : ℕ → ℕ) where
  module _ (suffices : ℕ → FractionBundle → Type 0) (sets : AreRequirementSets input.goods suffices) (rationalize : RationalizeCost input y suffices) where
    at_least : (lower : Bound) → ProvesLowerCost input y y0 prices lower → (x : FractionBundle) → IsBundle x → suffices y0 x → CostsAtLeast input prices x lower
    at_least (Shown value pair) is x ix there = is.none_less x (sufficing_is_outer input y suffices sets rationalize y0 x ix there)
    at_least (Wide step) is x ix there = tt

    suffice_at : (upper : Option Upper) → IsUpperCostBound input y y0 prices upper → SufficesAt input y y0 prices suffices upper
    suffice_at None none = tt
    suffice_at (Some upper) is = enough_suffices input y suffices sets rationalize y0 upper.at is.upper.observed is.upper.enough

  pub bound_producers : (lower : Bound) (upper : Option Upper) → ProvesLowerCost input y y0 prices lower → IsUpperCostBound input y y0 prices upper
      → BoundProducers input y y0 prices (record { upper = upper; lower = lower })
  bound_producers lower upper proves given = record {
    none_cheaper = λ passes sets rationalize. at_least (sets_by passes) sets rationalize lower proves;
    enough = λ passes sets rationalize. suffice_at (sets_by passes) sets rationalize upper given;
  }
