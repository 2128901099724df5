-- A new budget at which some demand supports (Varian 1982, on forecasting demand).
use Rattle.std.specs.Prelude.{ℕ, List}
use Rattle.rp_evidence.specs.Demand.{BudgetInput, FractionBundle, IsSupportingDemand}
use Rattle.rp_evidence.specs.DemandPrograms.{ListsBelow}
use Rattle.rp_evidence.specs.Garp.{MeetsGarp}
use Rattle.rp_evidence.specs.Input.{TableInput}

-- A table that meets the axiom, a new budget with the list of the observations below it, and a demand that supports.
pub record SupportedBudget : Type 0 where
  pub input : TableInput
  pub budget : BudgetInput
  pub below : List ℕ
  pub demand : FractionBundle
  pub sound : MeetsGarp input.n input.cost
  pub listed : ListsBelow input budget below
  pub supports : IsSupportingDemand input budget demand
