-- The bound from below is at most the one from above: under the cost axiom, inputs that made enough are in the outer set.
use Rattle.std.proofs.Common.{◌≤◌, ◌*◌, ℕ, Option, Some, None, subst, arith}
use Rattle.rp_evidence.specs.Input.{TableInput}
use Rattle.rp_evidence.specs.declared.demand.Bound.{Bound}
use Rattle.rp_evidence.specs.declared.demand.Bound.TheVariants.{Shown, Wide}
use Rattle.rp_producers.specs.CostAxiom.{MeetsCostAxiom}
use Rattle.rp_cost.specs.CostBounds.{IsAtMostUpper, IsUpperCostBound, ProvesLowerCost}
use Rattle.rp_producers.specs.OuterSet.{MadeIsOuter}
use Rattle.rp_cost.specs.declared.upper.Upper.{Upper}

module _ (input : TableInput) (y : ℕ → ℕ) (y0 : ℕ) (minimises : MeetsCostAxiom input.n input.cost y) where
  pub made_in_outer_set : MadeIsOuter input y y0
  made_in_outer_set s s_in enough = record {
    fraction = omega arith;
    dear = λ t t_in made.
        let h = minimises t s t_in s_in (omega (arith, enough, made)) in
        let e = input.sums t s t_in s_in in
        omega (arith, h, e);
  }

  pub lower_at_most : (prices : ℕ → ℕ) (lower : Bound) (upper : Option Upper) → ProvesLowerCost input y y0 prices lower → IsUpperCostBound input y y0 prices upper → IsAtMostUpper lower upper
  lower_at_most prices (Shown value pair) None proves given = tt
  lower_at_most prices (Wide step) None proves given = tt
  lower_at_most prices (Wide step) (Some upper) proves given = tt
  lower_at_most prices (Shown value pair) (Some upper) proves given =
      let h = proves.none_less (record { den = 1; num = input.quantity upper.at }) (made_in_outer_set upper.at given.upper.observed given.upper.enough) in
      subst (λ (c : ℕ). value.num ≤ c * value.den) given.upper.costs (omega (arith, h))
