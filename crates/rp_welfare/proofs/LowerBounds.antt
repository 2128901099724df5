-- The lower bound from the bound of its program.
use Rattle.std.proofs.Common.{◌≡◌, ◌<◌, ◌≤◌, ◌*◌, ℕ, ℤ, pos, ◌*ℤ◌, ◌≤ℤ◌, List, refl, subst, arith}
use Rattle.std.proofs.lemmas.Int.{ints}
use Rattle.rp_simplex.specs.ProgramBound.{IsBoundOf, ShowsLeastCost}
use Rattle.rp_simplex.proofs.RunBounds.{same_measure}
use Rattle.rp_evidence.specs.Demand.{FractionBundle, spending}
use Rattle.rp_evidence.specs.DemandEvidence.{ProvesLowerWelfare}
use Rattle.rp_evidence.specs.Garp.{MeetsGarp}
use Rattle.rp_evidence.specs.Input.{TableInput}
use Rattle.rp_evidence.specs.LeastCost.{least_cost_program}
use Rattle.rp_evidence.specs.Welfare.{IsInRegion, IsLowerWelfare, IsUpperWelfare, ListsReached}
use Rattle.rp_evidence.specs.declared.demand.Bound.{Bound}
use Rattle.rp_evidence.specs.declared.demand.Bound.TheVariants.{Shown, Wide}
use Rattle.rp_evidence.proofs.EqualOrReached.{equals}
use Rattle.rp_evidence.proofs.WelfareLaws.{in_region, reaching_in_region, region_is_feasible}
use Rattle.rp_farkas.specs.Best.{IsLeastCost}
use Rattle.rp_farkas.specs.Measure.{measured}
use Rattle.rp_farkas.specs.Prices.{HasFeasiblePrices}
use Rattle.rp_farkas.specs.declared.measure.Measure.TheVariants.{Cost}
use Rattle.rp_programs.proofs.LeastCosts.{cost_is, measure_is}
use Rattle.rp_welfare.specs.WelfareVerdict.{IsBoundAtMost}

-- what the price side of the program costs is what it costs at the new prices
pub cost_bound : (input : TableInput) (prices : ℕ → ℕ) (reached : List ℕ) (bound : Bound)
    → IsBoundOf (least_cost_program input prices reached) (measured (least_cost_program input prices reached) Cost) bound
    → IsBoundOf (least_cost_program input prices reached) (spending input.goods prices) bound
cost_bound input prices reached bound is =
    same_measure (least_cost_program input prices reached) (measured (least_cost_program input prices reached) Cost) (spending input.goods prices) (measure_is input prices reached) bound is

module _ (input : TableInput) (prices : ℕ → ℕ) (t : ℕ) (reached : List ℕ) (lists : ListsReached input t reached) where
  -- the bundle of t is a feasible price vector
  pub own_prices : t < input.n → MeetsGarp input.n input.cost → HasFeasiblePrices (least_cost_program input prices reached)
  own_prices t_in sound =
      (1, input.quantity t, region_is_feasible input prices t reached lists (record { den = 1; num = input.quantity t }) (reaching_in_region input t t sound (equals input t t t_in refl)))

  -- the least cost of the program is the least over the region
  least_over_region : (num den : ℕ) → IsLeastCost (least_cost_program input prices reached) num den → IsLowerWelfare input prices t num den
  least_over_region num den least = record {
    fraction = least.fraction;
    none_less = none_less;
    reached = (record { den = least.attained.0; num = least.attained.1 }, in_region input prices t reached lists least.attained.0 least.attained.1 least.attained.2, same);
  }
    where
      none_less : (bundle : FractionBundle) → IsInRegion input t bundle → num * bundle.den ≤ spending input.goods prices bundle.num * den
      none_less bundle r =
          let h = least.none_less bundle.den bundle.num (region_is_feasible input prices t reached lists bundle r) in
          let k = subst (λ (z : ℤ). pos (num * bundle.den) ≤ℤ (z *ℤ pos den)) (cost_is input prices reached bundle.num) h in
          omega (arith, ints, k)

      same : spending input.goods prices least.attained.1 * den ≡ num * least.attained.0
      same =
          let k = subst (λ (z : ℤ). (z *ℤ pos den) ≡ pos (num * least.attained.0)) (cost_is input prices reached least.attained.1) least.attained.3 in
          omega (arith, ints, k)

  pub least_proves : (bound : Bound) → ShowsLeastCost (least_cost_program input prices reached) bound → ProvesLowerWelfare input prices t bound
  least_proves (Shown value pair) least = least_over_region value.num value.den least
  least_proves (Wide step) least = tt

-- the lower bound is at most the upper one: the bundle of the upper one lies in the region
pub lower_at_most : (input : TableInput) (prices : ℕ → ℕ) (t s cost : ℕ) (bound : Bound) → MeetsGarp input.n input.cost → IsUpperWelfare input prices t s cost → ProvesLowerWelfare input prices t bound → IsBoundAtMost bound cost
lower_at_most input prices t s cost (Shown value pair) sound upper lower =
    let h = lower.none_less (record { den = 1; num = input.quantity s }) (reaching_in_region input s t sound upper.leads) in
    subst (λ (c : ℕ). value.num ≤ c * value.den) upper.costs (omega (arith, h))
lower_at_most input prices t s cost (Wide step) sound upper lower = _
