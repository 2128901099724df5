-- What is found nothing wrong with proves its verdict: demand and welfare.
use Rattle.std.proofs.Common.{◌≡◌, ◌*◌, ◌<◌, ◌≤◌, ℕ, List, Bool, IsTrue, Ok, ap, arith, slice_index, slice_index_or, sym}
use Rattle.std.proofs.Math.Nat.{eq_of_mul-eq-mul_right, le_of_mul-le-mul_right, lt_of_mul-lt-mul_right, mul-le-mul_right, mul-lt-mul_of_pos_right}
use Rattle.rp_num.specs.Fraction.{Fraction, IsLowestTerms}
use Rattle.rp_evidence.specs.BoundEvidence.{BoundHolds}
use Rattle.rp_evidence.specs.Demand.{BudgetInput, FractionBundle, IsInfimum, IsSupportingDemand, IsSupremum, spending}
use Rattle.rp_evidence.specs.DemandEvidence.{ProvesDemand, ProvesDemandBounds, ProvesGood, ProvesLower, ProvesLowerWelfare, ProvesUpper, ProvesWelfare, bundle_of, budget_of}
use Rattle.rp_evidence.specs.DemandPrograms.{ListsBelow, lower_program, upper_program}
use Rattle.rp_evidence.specs.Garp.{MeetsGarp}
use Rattle.rp_evidence.specs.Input.{TableInput}
use Rattle.rp_evidence.specs.Preference.{IsStrict, IsWeak}
use Rattle.rp_evidence.specs.Welfare.{IsLowerWelfare}
use Rattle.rp_evidence.specs.declared.demand.Bound.{Bound}
use Rattle.rp_evidence.specs.declared.demand.Bound.TheVariants.{Shown, Wide}
use Rattle.rp_evidence.specs.declared.demand.DemandPart.{DemandPart}
use Rattle.rp_evidence.specs.declared.demand.DemandPart.TheVariants.{Bounds, NoModel}
use Rattle.rp_evidence.specs.declared.demand.GoodBounds.{GoodBounds}
use Rattle.rp_evidence.specs.declared.demand.Point.{Point}
use Rattle.rp_evidence.specs.declared.demand.WelfarePart.{WelfarePart}
use Rattle.rp_evidence.specs.declared.demand.WelfarePart.TheVariants.{Bounds as WelfareBounds, NoModel as NoWelfare}
use Rattle.rp_evidence.specs.declared.garp.Garp.TheVariants.{Cycle}
use Rattle.rp_evidence.proofs.DemandBounds.{lower_is_infimum, upper_is_supremum}
use Rattle.rp_evidence.proofs.DemandLaws.{supporting_exactly}
use Rattle.rp_evidence.proofs.EqualOrReached.{starts_in}
use Rattle.rp_evidence.proofs.WelfareLaws.{pair_is_least}
use Rattle.rp_farkas.specs.Listing.{numerator_at}
use Rattle.rp_check.specs.DemandFailure.{DemandBoundsFail, DemandFails, GoodFails}
use Rattle.rp_check.specs.WelfareFailure.{LowerHolds, WelfareFails}
use Rattle.rp_clauses.proofs.SoundTests.{garp_proves}

-- ---- a number and its lowest terms

-- m/e is n/d
module _ (a b n d m e : ℕ) (d_some : 0 < d) (e_some : 0 < e) (same : m * d ≡ n * e) where
  below_there : a * e < m * b → a * d < n * b
  below_there h =
      let k = mul-lt-mul_of_pos_right {k = d} h d_some in
      let q = ap (λ z. z * b) same in
      lt_of_mul-lt-mul_right e (omega (arith, k, q))

  above_there : m * b < a * e → n * b < a * d
  above_there h =
      let k = mul-lt-mul_of_pos_right {k = d} h d_some in
      let q = ap (λ z. z * b) same in
      lt_of_mul-lt-mul_right e (omega (arith, k, q))

  at_most_here : n * b ≤ a * d → m * b ≤ a * e
  at_most_here h =
      let k = mul-le-mul_right e h in
      let q = ap (λ z. z * b) same in
      le_of_mul-le-mul_right (omega (arith, k, q)) d_some

  equal_here : a * d ≡ n * b → a * e ≡ m * b
  equal_here h =
      let k = ap (λ z. z * e) h in
      let q = ap (λ z. z * b) same in
      eq_of_mul-eq-mul_right d d_some (a * e) (m * b) (omega (arith, k, q))

module _ (input : TableInput) (num den : ℕ) (value : Fraction) (lowest : IsLowestTerms num den value) where
  infimum_reduced : (budget : BudgetInput) (g : ℕ) → IsInfimum input budget g num den → IsInfimum input budget g value.num value.den
  infimum_reduced budget g is = record {
    fraction = lowest.positive;
    none_less = λ bundle s less. is.none_less bundle s (below_there (bundle.num g) bundle.den num den value.num value.den is.fraction lowest.positive lowest.same_number less);
    approached = λ num' den' some greater.
        is.approached num' den' some (above_there num' den' num den value.num value.den is.fraction lowest.positive lowest.same_number greater);
  }

  supremum_reduced : (budget : BudgetInput) (g : ℕ) → IsSupremum input budget g num den → IsSupremum input budget g value.num value.den
  supremum_reduced budget g is = record {
    fraction = lowest.positive;
    none_more = λ bundle s more. is.none_more bundle s (above_there (bundle.num g) bundle.den num den value.num value.den is.fraction lowest.positive lowest.same_number more);
    approached = λ num' den' some smaller.
        is.approached num' den' some (below_there num' den' num den value.num value.den is.fraction lowest.positive lowest.same_number smaller);
  }

  lower_welfare_reduced : (prices : ℕ → ℕ) (t : ℕ) → IsLowerWelfare input prices t num den → IsLowerWelfare input prices t value.num value.den
  lower_welfare_reduced prices t is = record {
    fraction = lowest.positive;
    none_less = λ bundle inside.
        at_most_here (spending input.goods prices bundle.num) bundle.den num den value.num value.den is.fraction lowest.positive lowest.same_number (is.none_less bundle inside);
    reached = (
      is.reached.0,
      is.reached.1,
      equal_here (spending input.goods prices is.reached.0.num) is.reached.0.den num den value.num value.den is.fraction lowest.positive lowest.same_number is.reached.2,
    );
  }

module _ (input : TableInput) (garp_shown : Bool) (sound : IsTrue garp_shown → MeetsGarp input.n input.cost) where
  -- ---- demand

  module _ (budget : BudgetInput) (below : List ℕ) (lists : ListsBelow input budget below) (meets : MeetsGarp input.n input.cost) (inner : FractionBundle) (kept : IsSupportingDemand input budget inner) (g : ℕ) (g_in : g < input.goods) (some : 0 < budget.prices g) where
    proves_lower : (bound : Bound) → BoundHolds (lower_program input budget below g) (λ x. x g) bound → ProvesLower input budget g bound
    proves_lower (Shown value pair) (equal, lowest) =
        infimum_reduced input (slice_index pair.x g) pair.den value lowest budget g
        (lower_is_infimum input budget below lists meets inner kept g pair.den (numerator_at pair.y) (slice_index pair.x) g_in equal.equal)
    proves_lower (Wide step) holds = tt

    proves_upper : (bound : Bound) → BoundHolds (upper_program input budget below g) (λ x. x g) bound → ProvesUpper input budget g bound
    proves_upper (Shown value pair) (equal, lowest) =
        supremum_reduced input (slice_index pair.x g) pair.den value lowest budget g
        (upper_is_supremum input budget below lists meets inner kept g pair.den (numerator_at pair.y) (slice_index pair.x) g_in some equal.equal)
    proves_upper (Wide step) holds = tt

    proves_good : (bounds : GoodBounds) → GoodFails input budget below g bounds (Ok tt) → ProvesGood input budget g bounds
    proves_good bounds (lower, (upper, done)) = (proves_lower bounds.lower lower, proves_upper bounds.upper upper)

  demand_bounds_prove : (budget : BudgetInput) (below strict : List ℕ) (inner : Point) (goods : List GoodBounds) → ((g : ℕ) → g < input.goods → 0 < budget.prices g)
      → DemandBoundsFail input garp_shown budget below strict inner goods (Ok tt) → ProvesDemandBounds input budget below strict inner goods
  demand_bounds_prove budget below strict inner goods some (is_shown, ((below_listed, (strict_listed, listed)), ((den, (length_is, (spent, (enough, point)))), ((one_each, (each, all)), done)))) =
      let kept : IsSupportingDemand input budget (bundle_of inner) =
      (supporting_exactly input budget (bundle_of inner) (sound is_shown) (record { fraction = den; spent = spent })).1
      ((λ t t_in is_below. (enough t t_in).0 is_below), (λ t t_in is_below. (enough t t_in).1 is_below)) in
      record {
        sound = sound is_shown;
        below_listed = below_listed;
        strict_listed = strict_listed;
        inner_goods = length_is;
        inner_supports = kept;
        one_each = one_each;
        each = λ g d g_in. proves_good budget below below_listed (sound is_shown) (bundle_of inner) kept g g_in (some g g_in) (slice_index_or goods g d) (each g g_in d);
      }

  pub demand_proves : (prices : List ℕ) (m : ℕ) (evidence : DemandPart) → DemandFails input garp_shown prices m evidence (Ok tt) → ProvesDemand input prices m evidence
  demand_proves prices m (Bounds below strict inner goods) ((one_each, (fit, priced)), (spent, (bounds, done))) =
      (one_each, demand_bounds_prove (budget_of prices m) below strict inner goods (λ g g_in. (fit g g_in).0) bounds)
  demand_proves prices m (NoModel walk) (priced, (spent, (violation, done))) = garp_proves input.n (IsWeak input.cost) (IsStrict input.cost) (Cycle walk) violation

  -- ---- welfare

  lower_proves : (prices : ℕ → ℕ) (t : ℕ) (lower : Bound) → LowerHolds input prices t lower → ProvesLowerWelfare input prices t lower
  lower_proves prices t (Shown value pair) (reached, lists, (equal, lowest)) =
      lower_welfare_reduced input (spending input.goods prices (slice_index pair.x)) pair.den value lowest prices t
      (pair_is_least input prices t reached lists pair.den (numerator_at pair.y) (slice_index pair.x) equal.equal)
  lower_proves prices t (Wide step) holds = tt

  pub welfare_proves : (prices : List ℕ) (t : ℕ) (evidence : WelfarePart) → WelfareFails input garp_shown prices t evidence (Ok tt) → ProvesWelfare input prices t evidence
  welfare_proves prices t (WelfareBounds upper at lower) ((one_each, (fit, priced)), (((t_in, at_in), ((is_shown, (leads, (costs, (least, (low, all))))), bounded)), done)) = (
    one_each,
    record {
      sound = sound is_shown;
      observed = t_in;
      upper_is = record {
        observed = at_in;
        leads = leads;
        costs = sym costs;
        least = λ r reaches. least r (starts_in input r t reaches) reaches;
      };
      lower_is = lower_proves (slice_index prices) t lower low;
    },
  )
  welfare_proves prices t (NoWelfare walk) (priced, ((t_in, (violation, one)), done)) = garp_proves input.n (IsWeak input.cost) (IsStrict input.cost) (Cycle walk) violation
