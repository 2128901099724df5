-- What is answered on the two axioms of production (Varian 1984): that one holds, or the first pair that breaks it.
use Rattle.std.specs.Prelude.{◌≡◌, ◌↔◌, ℕ, Option, IfSome, IsNone, length, slice_index}
use Rattle.rp_evidence.specs.First.{IsFirstRelated, NoneRelated}
use Rattle.rp_evidence.specs.Input.{input_of_table}
use Rattle.rp_table.specs.Cost.{cost_of}
use Rattle.rp_table.specs.Tables.{records_of}
use Rattle.rp_producers.specs.CostAxiom.{BreaksCostAxiom, MeetsCostAxiom}
use Rattle.rp_producers.specs.ProductionSets.{HasConvexProductionSet, HasProductionSet}
use Rattle.rp_producers.specs.ProfitAxiom.{BreaksProfitAxiom, MeetsProfitAxiom}
use Rattle.rp_producers.specs.RequirementSets.{HasConvexRequirementSets, HasRequirementSets}
use Rattle.rp_cost.specs.Technology.{Technology}
use Rattle.rp_cost.specs.declared.axioms.Axiom.{Axiom}
use Rattle.rp_cost.specs.declared.axioms.Axiom.TheVariants.{Holds, Pair}
use Rattle.rp_cost.specs.declared.axioms.Test.{Test}
use Rattle.rp_cost.specs.declared.axioms.Test.TheVariants.{Cost, Profit}

-- the axioms of a technology
abbrev pub MeetsCost : Technology → Type 0
MeetsCost tech = MeetsCostAxiom (records_of tech.table) (cost_of tech.table) (slice_index tech.y)

abbrev pub MeetsProfit : Technology → Type 0
MeetsProfit tech = MeetsProfitAxiom (records_of tech.table) (cost_of tech.table) (slice_index tech.y)
    (slice_index tech.p)

-- t and s break the axiom that is looked at
abbrev pub Breaks : Test → Technology → ℕ → ℕ → Type 0
Breaks Cost tech = BreaksCostAxiom (cost_of tech.table) (slice_index tech.y)
Breaks Profit tech = BreaksProfitAxiom (cost_of tech.table) (slice_index tech.y) (slice_index tech.p)

-- of n observations none break an axiom, or these are the first two that do
abbrev pub AreFirstBroken : ℕ → (ℕ → ℕ → Type 0) → Axiom → Type 0
AreFirstBroken n breaks Holds = NoneRelated n breaks
AreFirstBroken n breaks (Pair first second) = IsFirstRelated n breaks first second

-- the verdict on the cost axiom: that it holds, or the first pair that breaks it; and so whether some requirement sets
-- rationalize the technology, which may be convex ones
pub record IsCostVerdict (tech : Technology) (verdict : Axiom) : Type 0 where
  pub first : AreFirstBroken (records_of tech.table) (BreaksCostAxiom (cost_of tech.table) (slice_index tech.y)) verdict
  pub holds : (verdict ≡ Holds) ↔ MeetsCost tech
  pub sets : (verdict ≡ Holds) ↔ HasRequirementSets (input_of_table tech.table) (slice_index tech.y)
  pub convex : (verdict ≡ Holds) ↔ HasConvexRequirementSets (input_of_table tech.table) (slice_index tech.y)

-- the same on the profit axiom and of production sets, and none where the output has no price
pub record IsProfitVerdict (tech : Technology) (verdict : Option Axiom) : Type 0 where
  pub priced : IsNone verdict ↔ (length tech.p ≡ 0)
  pub first : IfSome verdict (AreFirstBroken (records_of tech.table)
      (BreaksProfitAxiom (cost_of tech.table) (slice_index tech.y) (slice_index tech.p)))
  pub holds : IfSome verdict (λ found. (found ≡ Holds) ↔ MeetsProfit tech)
  pub sets : IfSome verdict (λ found. (found ≡ Holds)
      ↔ HasProductionSet (input_of_table tech.table) (slice_index tech.y) (slice_index tech.p))
  pub convex : IfSome verdict (λ found. (found ≡ Holds)
      ↔ HasConvexProductionSet (input_of_table tech.table) (slice_index tech.y) (slice_index tech.p))
