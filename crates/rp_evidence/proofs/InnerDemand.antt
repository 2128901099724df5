-- The inner demand is a supporting demand: nothing below costs more than what its start costs there, since the count would
-- be greater; and where it costs the same at an observation strictly below, money is left for good 0.
use Rattle.std.proofs.Common.{◌≡◌, ◌<◌, ◌≤◌, ◌+◌, ◌*◌, ◌-◌, inl, inr, ℕ, zero, suc, List, [], ◌∷◌, refl, sym, subst, ◌∙◌, ap, arith, slice_index, eqb, cond}
use Rattle.std.proofs.Math.Nat.{mul-le-mul_left, mul-lt-mul_of_pos_left, mul-pos}
use Rattle.std.proofs.lemmas.Bool.{cases_lt}
use Rattle.std.proofs.Math.Dec.{eqb-suc-zero}
use Rattle.rp_table.proofs.SpendingLaws.{spending-same}
use Rattle.rp_evidence.specs.Count.{AreCounts}
use Rattle.rp_evidence.specs.Demand.{BudgetInput, FractionBundle, IsOnBudget, IsSupportingDemand, IsBelow, IsStrictlyBelow, IsInnerStart, IsInnerDemand, CostsEnough, CostsMore, Buys, all_on_first, spending, with_rest_on_first}
use Rattle.rp_evidence.specs.Garp.{MeetsGarp}
use Rattle.rp_evidence.specs.Input.{TableInput}
use Rattle.rp_evidence.specs.Preference.{IsWeak, IsStrict}
use Rattle.rp_evidence.specs.Ranks.{RespectPreference}
use Rattle.rp_evidence.specs.Walk.{LeadsTo, IsWalk, HasStep, HasStepFrom}
use Rattle.rp_evidence.proofs.Counts.{counts_respect_preference}
use Rattle.rp_evidence.proofs.DemandLaws.{keeps}
use Rattle.rp_evidence.proofs.DemandMixtures.{spending_of_sum}
use Rattle.rp_evidence.proofs.Levels.{strict_to_weak}
use Rattle.rp_evidence.proofs.Violations.{falls, never_rises}
use Rattle.rp_evidence.proofs.Walks.{starts_below}

-- what all of something on good 0 costs
spending_first : (goods : ℕ) (prices : ℕ → ℕ) (k : ℕ) → 0 < goods → spending goods prices (λ g. cond (eqb g 0) k 0) ≡ prices 0 * k
spending_first zero prices k some = absurd (omega arith)
spending_first (suc zero) prices k some = omega arith
spending_first (suc (suc j)) prices k some =
    let h = spending_first (suc j) prices k (omega arith) in
    let z : cond (eqb (suc j) 0) k 0 ≡ 0 = ap (λ b. cond b k 0) (eqb-suc-zero j) in
    let p : prices (suc j) * cond (eqb (suc j) 0) k 0 ≡ prices (suc j) * 0 = ap (λ v. prices (suc j) * v) z in
    omega arith

module _ (input : TableInput) (budget : BudgetInput) (sound : MeetsGarp input.n input.cost) (some_goods : 0 < input.goods)
    (new_prices : 0 < budget.prices 0) (old_prices : (t : ℕ) → t < input.n → 0 < input.price t 0) where
  -- ---- from a bundle of the table, with the rest on good 0

  module _ (s : ℕ) (counts : List ℕ) (are : AreCounts input.n (IsWeak input.cost) counts) (start : IsInnerStart input budget counts s)
      (bundle : FractionBundle) (over : bundle.den ≡ budget.prices 0)
      (parts : (g : ℕ) → g < input.goods → bundle.num g ≡ with_rest_on_first input budget s g) where
    spent_there : (prices : ℕ → ℕ) → spending input.goods prices bundle.num
        ≡ budget.prices 0 * spending input.goods prices (input.quantity s) + prices 0 * (budget.expenditure - spending input.goods budget.prices (input.quantity s))
    spent_there prices =
        let rest = budget.expenditure - spending input.goods budget.prices (input.quantity s) in
        let a = spending-same input.goods input.goods prices bundle.num prices (λ g. budget.prices 0 * input.quantity s g + 1 * cond (eqb g 0) rest 0) refl (λ g l. refl) (λ g l. parts g l ∙ omega arith) in
        let b = spending_of_sum input.goods prices (input.quantity s) (λ g. cond (eqb g 0) rest 0) (budget.prices 0) 1 in
        let d = spending_first input.goods prices rest some_goods in
        omega arith

    respect : RespectPreference input.n (IsWeak input.cost) (IsStrict input.cost) counts
    respect = counts_respect_preference input.n (IsWeak input.cost) (IsStrict input.cost) (λ a b a_in b_in. strict_to_weak input.cost 1 1 a b) counts are sound

    -- what leads to t has at least its count, and more where a step is strict
    led : (t : ℕ) (below : IsBelow input budget t) → (below.from < input.n) × (slice_index counts t ≤ slice_index counts below.from)
    led t below = go below.walk below.leads
      where
        go : (w : List ℕ) → IsWalk input.n (IsWeak input.cost) below.from t w → (below.from < input.n) × (slice_index counts t ≤ slice_index counts below.from)
        go [] l = absurd l
        go (x ∷ w) l =
            let l' = subst (λ z. LeadsTo input.n (IsWeak input.cost) z t w) l.0 l.1 in
            (starts_below input.n (IsWeak input.cost) below.from t w l', never_rises input.n (IsWeak input.cost) (IsStrict input.cost) counts respect below.from t w l')

    fallen : (t : ℕ) (below : IsStrictlyBelow input budget t) → HasStep (IsStrict input.cost) below.walk → slice_index counts t < slice_index counts below.from
    fallen t below h = go below.walk below.leads h
      where
        go : (w : List ℕ) → IsWalk input.n (IsWeak input.cost) below.from t w → HasStep (IsStrict input.cost) w → slice_index counts t < slice_index counts below.from
        go [] l k = absurd l
        go (x ∷ w) l k =
            falls input.n (IsWeak input.cost) (IsStrict input.cost) counts respect below.from t w
            (subst (λ z. LeadsTo input.n (IsWeak input.cost) z t w) l.0 l.1) (subst (λ z. HasStepFrom (IsStrict input.cost) z w) l.0 k)

    start_is_dear : (t : ℕ) → t < input.n → IsBelow input budget t → input.cost t t ≤ input.cost t s
    start_is_dear t t_in below = elim (cases_lt (input.cost t s) (input.cost t t)) [
      | inl less ↦
          let f = respect.strict_falls t s t_in start.observed (omega arith) in
          let l = led t below in
          let g = start.greatest below.from l.0 below.bought in
          absurd (omega (arith, f, l.1, g))
      | inr enough ↦ enough
    ]

    abbrev weakly : (t : ℕ) → IsStrictlyBelow input budget t → IsBelow input budget t
    weakly t below = record { from = below.from; walk = below.walk; bought = below.bought; leads = below.leads }

    rest_is_left : (t : ℕ) → t < input.n → (below : IsStrictlyBelow input budget t) → input.cost t s ≤ input.cost t t
        → spending input.goods budget.prices (input.quantity s) < budget.expenditure
    rest_is_left t t_in below same =
        let n = respect.weak_never_rises t s t_in start.observed (omega arith) in
        let l = led t (weakly t below) in
        let g = start.greatest below.from l.0 below.bought in
        elim below.strict [
          | inl left ↦
              let cheap = start.cheapest below.from l.0 below.bought (omega (arith, l.1, n, g)) in
              omega (arith, cheap, left)
          | inr h ↦ let f = fallen t below h in absurd (omega (arith, f, n, g))
        ]

    from_start : IsSupportingDemand input budget bundle
    from_start = keeps input budget bundle sound on enough more
      where
        on : IsOnBudget input budget bundle
        on = record {
          fraction = subst (λ v. 0 < v) (sym over) new_prices;
          spent =
              let e = spent_there budget.prices in
              let b = start.bought in
              let d : bundle.den * budget.expenditure ≡ budget.prices 0 * budget.expenditure = ap (λ v. v * budget.expenditure) over in
              let r = budget.expenditure - spending input.goods budget.prices (input.quantity s) in
              let f : budget.prices 0 * budget.expenditure ≡ budget.prices 0 * (spending input.goods budget.prices (input.quantity s) + r) = ap (λ v. budget.prices 0 * v) (omega arith) in
              omega arith;
        }

        enough : CostsEnough input budget bundle
        enough t t_in below =
            let e = spent_there (input.price t) in
            let u = input.sums t s t_in start.observed in
            let a : budget.prices 0 * input.cost t t ≤ budget.prices 0 * input.cost t s = mul-le-mul_left (budget.prices 0) (start_is_dear t t_in below) in
            let b : budget.prices 0 * input.cost t s ≡ budget.prices 0 * spending input.goods (input.price t) (input.quantity s) = ap (λ v. budget.prices 0 * v) u in
            let d : bundle.den * input.cost t t ≡ budget.prices 0 * input.cost t t = ap (λ v. v * input.cost t t) over in
            omega arith

        more : CostsMore input budget bundle
        more t t_in below =
            let e = spent_there (input.price t) in
            let u = input.sums t s t_in start.observed in
            let b : budget.prices 0 * input.cost t s ≡ budget.prices 0 * spending input.goods (input.price t) (input.quantity s) = ap (λ v. budget.prices 0 * v) u in
            let d : bundle.den * input.cost t t ≡ budget.prices 0 * input.cost t t = ap (λ v. v * input.cost t t) over in
            elim (cases_lt (input.cost t t) (input.cost t s)) [
              | inl dearer ↦
                  let a : budget.prices 0 * input.cost t t < budget.prices 0 * input.cost t s = mul-lt-mul_of_pos_left dearer new_prices in
                  omega (arith, a, b, d, e)
              | inr same ↦
                  let a : budget.prices 0 * input.cost t t ≤ budget.prices 0 * input.cost t s = mul-le-mul_left (budget.prices 0) (start_is_dear t t_in (weakly t below)) in
                  let left = rest_is_left t t_in below same in
                  let r : 0 < input.price t 0 * (budget.expenditure - spending input.goods budget.prices (input.quantity s)) = mul-pos (old_prices t t_in) (omega (arith, left)) in
                  omega (arith, a, b, d, e, r)
            ]

  -- ---- all on good 0

  all_there : (bundle : FractionBundle) → bundle.den ≡ budget.prices 0 → ((s : ℕ) → s < input.n → ¬ Buys input budget s)
      → ((g : ℕ) → g < input.goods → bundle.num g ≡ all_on_first budget g) → IsSupportingDemand input budget bundle
  all_there bundle over none parts = keeps input budget bundle sound on
      (λ t t_in below. absurd (nothing t below.from below.walk below.leads below.bought))
      (λ t t_in below. absurd (nothing t below.from below.walk below.leads below.bought))
    where
      nothing : (t s : ℕ) (w : List ℕ) → IsWalk input.n (IsWeak input.cost) s t w → Buys input budget s → ⊥
      nothing t s [] l b = absurd l
      nothing t s (x ∷ w) l b = none s (subst (λ z. z < input.n) l.0 (starts_below input.n (IsWeak input.cost) x t w l.1)) b

      on : IsOnBudget input budget bundle
      on = record {
        fraction = subst (λ v. 0 < v) (sym over) new_prices;
        spent = spending-same input.goods input.goods budget.prices bundle.num budget.prices (all_on_first budget) refl (λ g l. refl) parts ∙ spending_first input.goods budget.prices budget.expenditure some_goods ∙ ap (λ v. v * budget.expenditure) (sym over);
      }

  pub inner_demand_supports : (bundle : FractionBundle) → IsInnerDemand input budget bundle → IsSupportingDemand input budget bundle
  inner_demand_supports bundle inner = elim inner.parts [
    | inl p ↦ from_start p.0 p.1 p.2 p.3 bundle inner.over p.4
    | inr p ↦ all_there bundle inner.over p.0 p.1
  ]
