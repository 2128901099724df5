-- What evidence on welfare proves holds in every Afriat model.
use Rattle.std.proofs.Common.{◌≡◌, ◌<◌, ◌*◌, ℕ, ℤ, pos, ◌+ℤ◌, ◌-ℤ◌, ◌*ℤ◌, ◌≤ℤ◌, List, slice_index, subst, arith}
use Rattle.std.proofs.lemmas.Int.{ints}
use Rattle.rp_evidence.specs.Afriat.{IsAfriatModel, IsUtility}
use Rattle.rp_evidence.specs.Demand.{FractionBundle, spending}
use Rattle.rp_evidence.specs.DemandEvidence.{ProvesLowerWelfare, ProvesWelfare, ProvesWelfareBounds}
use Rattle.rp_evidence.specs.Input.{TableInput}
use Rattle.rp_evidence.specs.Welfare.{IsAsGoodAs, IsInRegion}
use Rattle.rp_evidence.specs.WelfareModels.{BoundWelfare, CostsAtLeast, HoldsInEveryModel, bundle_at}
use Rattle.rp_evidence.specs.declared.demand.Bound.{Bound}
use Rattle.rp_evidence.specs.declared.demand.Bound.TheVariants.{Shown, Wide}
use Rattle.rp_evidence.specs.declared.demand.WelfarePart.{WelfarePart}
use Rattle.rp_evidence.specs.declared.demand.WelfarePart.TheVariants.{Bounds, NoModel}
use Rattle.rp_evidence.proofs.AfriatModels.{model_meets_garp, utility_at_observed}
use Rattle.rp_evidence.proofs.WelfareLaws.{as_well_off_in_region, reaching_is_as_well_off}

-- a utility depends on what the bundle costs at the observations alone
utility_same : (n : ℕ) (c : ℕ → ℕ → ℕ) (utility : ℕ → ℤ) (multiplier : ℕ → ℕ) (den : ℕ) (cost other : ℕ → ℕ) (value : ℤ)
    → ((s : ℕ) → s < n → cost s ≡ other s) → IsUtility n c utility multiplier den cost value → IsUtility n c utility multiplier den other value
utility_same n c utility multiplier den cost other value same is = record {
  reached = (
    is.reached.0,
    is.reached.1,
    subst (λ (z : ℕ). value ≡ (pos den *ℤ utility is.reached.0) +ℤ (pos (multiplier is.reached.0) *ℤ (pos z -ℤ pos (den * c is.reached.0 is.reached.0))))
        (same is.reached.0 is.reached.1) is.reached.2,
  );
  least = λ s a. subst (λ (z : ℕ). value ≤ℤ ((pos den *ℤ utility s) +ℤ (pos (multiplier s) *ℤ (pos z -ℤ pos (den * c s s))))) (same s a) (is.least s a);
}

none_cheaper : (input : TableInput) (prices : ℕ → ℕ) (t : ℕ) (bundle : FractionBundle) (lower : Bound)
    → IsInRegion input t bundle → ProvesLowerWelfare input prices t lower → CostsAtLeast input prices bundle lower
none_cheaper input prices t bundle (Shown value pair) in_region is = is.none_less bundle in_region
none_cheaper input prices t bundle (Wide step) in_region is = _

module _ (input : TableInput) (utility : ℕ → ℤ) (multiplier : ℕ → ℕ) (model : IsAfriatModel input.n input.cost utility multiplier) where
  as_good_at : (s t : ℕ) → s < input.n → utility t ≤ℤ utility s → IsAsGoodAs input utility multiplier (bundle_at input s) t
  as_good_at s t s_in high = record {
    fraction = omega arith;
    value = utility s;
    value_is = utility_same input.n input.cost utility multiplier 1 (λ r. input.cost r s) (λ r. spending input.goods (input.price r) (input.quantity s)) (utility s)
        (λ r r_in. input.sums r s r_in s_in)
        (utility_at_observed input.n input.cost utility multiplier model s s_in);
    at_least = omega (arith, ints, high);
  }

  pub bounds_hold : (prices : ℕ → ℕ) (t upper at : ℕ) (lower : Bound) → ProvesWelfareBounds input prices t upper at lower → BoundWelfare input utility multiplier prices t upper at lower
  bounds_hold prices t upper at lower proves =
      let high = reaching_is_as_well_off input utility multiplier model at t proves.upper_is.leads in
      record {
        none_cheaper = λ bundle good.
            none_cheaper input prices t bundle lower
            (as_well_off_in_region input utility multiplier model t bundle good.value good.fraction good.value_is good.at_least) proves.lower_is;
        as_good = as_good_at at t proves.upper_is.observed high;
        at_least = high;
        costs = proves.upper_is.costs;
      }

pub evidence_holds : (input : TableInput) (prices : List ℕ) (t : ℕ) (part : WelfarePart) → ProvesWelfare input prices t part → HoldsInEveryModel input prices t part
evidence_holds input prices t (Bounds upper at lower) proves utility multiplier model =
    bounds_hold input utility multiplier model (slice_index prices) t upper at lower proves.1
evidence_holds input prices t (NoModel walk) proves utility multiplier model = model_meets_garp input.n input.cost utility multiplier model walk proves
