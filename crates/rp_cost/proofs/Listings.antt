-- Lists of observations that made an output or less: there is one, and the evidence on a bound is told over it.
use Rattle.std.proofs.Common.{◌↔◌, ◌≤◌, ℕ, Bool, IsTrue, List, subst}
use Rattle.rp_evidence.specs.BoundEvidence.{BoundHolds}
use Rattle.rp_evidence.specs.Demand.{spending}
use Rattle.rp_evidence.specs.Input.{TableInput}
use Rattle.rp_evidence.specs.LeastCost.{least_cost_program}
use Rattle.rp_evidence.specs.declared.demand.Bound.{Bound}
use Rattle.rp_evidence.proofs.Enumerations.{enumeration_is_one}
use Rattle.rp_cost.specs.CostBounds.{LowerHolds}
use Rattle.rp_producers.specs.OuterSet.{ListsNotAbove}

module _ (input : TableInput) (y : ℕ → ℕ) (y0 : ℕ) (prices : ℕ → ℕ) (lower : Bound) (list : List ℕ) (lists : ListsNotAbove input y y0 list) (b : Bool) where
  pub lower_told : IsTrue b ↔ BoundHolds (least_cost_program input prices list) (spending input.goods prices) lower → IsTrue b ↔ LowerHolds input y y0 prices lower
  lower_told told = (
    (λ h. (list, lists, told.0 h)),
    (λ h. told.1 (subst (λ (xs : List ℕ). BoundHolds (least_cost_program input prices xs) (spending input.goods prices) lower) (enumeration_is_one input.n (λ t. y t ≤ y0) h.0 list h.1 lists) h.2)),
  )
