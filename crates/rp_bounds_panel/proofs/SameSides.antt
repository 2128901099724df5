-- Evidence on demand and on the money metric for one table and one record of new prices tells one amount of each bound:
-- an infimum, a supremum and a least cost are one number. The run of a program decides whether the stated bound is withheld.
use Rattle.std.proofs.Common.{inl, inr, ◌≡◌, ◌<◌, ◌≤◌, ◌+◌, ◌*◌, ◌^◌, ℕ, zero, suc, List, refl, sym, subst, ap, ◌∙◌, arith, slice_index_or}
use Rattle.std.specs.Prelude.{slice_index}
use Rattle.std.proofs.Math.Nat.{eq_of_mul-eq-mul_right, one-le-mul, one-le-pow}
use Rattle.std.proofs.lemmas.Bool.{cases_lt}
use Rattle.rp_bound_rows.specs.AsStated.{demand_as_stated, welfare_as_stated}
use Rattle.rp_bound_rows.specs.DemandLines.{AreGoodSides}
use Rattle.rp_bound_rows.specs.Sides.{AreViolated, IsAmountOf, IsSideOf}
use Rattle.rp_bound_rows.specs.WelfareLines.{AreWelfareSides}
use Rattle.rp_bound_rows.specs.declared.side.Side.{Side}
use Rattle.rp_bound_rows.specs.declared.side.Side.TheVariants.{Given, Violated, Withheld}
use Rattle.rp_bound_rows.specs.declared.side.Sides.{Sides}
use Rattle.rp_bounds_panel.specs.BoundsAlike.{IsSameUnlessWithheld}
use Rattle.rp_evidence.specs.Demand.{BudgetInput, IsBelow, IsInfimum, IsSupremum, spending}
use Rattle.rp_evidence.specs.DemandEvidence.{ProvesDemand, ProvesLower, ProvesLowerWelfare, ProvesUpper, ProvesWelfare, budget_of}
use Rattle.rp_evidence.specs.DemandPrograms.{lower_program, upper_program}
use Rattle.rp_evidence.specs.Input.{TableInput, input_of_table}
use Rattle.rp_evidence.specs.LeastCost.{least_cost_program}
use Rattle.rp_evidence.specs.Welfare.{EqualsOrReaches, IsLowerWelfare, IsUpperWelfare}
use Rattle.rp_evidence.specs.declared.demand.Bound.{Bound}
use Rattle.rp_evidence.specs.declared.demand.Bound.TheVariants.{Shown, Wide}
use Rattle.rp_evidence.specs.declared.demand.DemandPart.{DemandPart}
use Rattle.rp_evidence.specs.declared.demand.DemandPart.TheVariants.{Bounds, NoModel}
use Rattle.rp_evidence.specs.declared.demand.GoodBounds.{GoodBounds}
use Rattle.rp_evidence.specs.declared.demand.Point.{Point}
use Rattle.rp_evidence.specs.declared.demand.WelfarePart.{WelfarePart}
use Rattle.rp_evidence.specs.declared.demand.WelfarePart.TheVariants.{Bounds as WelfareBounds, NoModel as NoWelfare}
use Rattle.rp_evidence.specs.declared.garp.Garp.{Garp}
use Rattle.rp_evidence.specs.declared.garp.Garp.TheVariants.{Cycle, Ranks}
use Rattle.rp_evidence.proofs.Enumerations.{enumeration_is_one}
use Rattle.rp_farkas.specs.LinearProgram.{LinearProgram}
use Rattle.rp_num.specs.Fraction.{Fraction, IsLowestTerms}
use Rattle.rp_num.proofs.Lowest.{same_IsLowestTerms}
use Rattle.rp_simplex.specs.ProgramBound.{IsBoundOf}
use Rattle.rp_support.specs.Bounds.{AreBoundsOf}
use Rattle.rp_support.specs.DemandVerdict.{IsDemandVerdict}
use Rattle.rp_table.specs.Tables.{Observations, goods_of}
use Rattle.rp_welfare.specs.WelfareVerdict.{IsLowerBound, IsWelfareVerdict}

-- ---- one number

infimum_below : (input : TableInput) (budget : BudgetInput) (g a b p q : ℕ) → IsInfimum input budget g a b → IsInfimum input budget g p q → a * q < p * b → ⊥
infimum_below input budget g a b p q one other less =
    let near = one.approached p q other.fraction less in
    other.none_less near.0 near.1 near.2

infimum_same : (input : TableInput) (budget : BudgetInput) (g a b p q : ℕ) → IsInfimum input budget g a b → IsInfimum input budget g p q → a * q ≡ p * b
infimum_same input budget g a b p q one other = elim (cases_lt (a * q) (p * b)) [
  | inl less ↦ absurd (infimum_below input budget g a b p q one other less)
  | inr l ↦ elim (cases_lt (p * b) (a * q)) [
    | inl more ↦ absurd (infimum_below input budget g p q a b other one more)
    | inr m ↦ omega (arith, l, m)
  ]
]

supremum_below : (input : TableInput) (budget : BudgetInput) (g a b p q : ℕ) → IsSupremum input budget g a b → IsSupremum input budget g p q → a * q < p * b → ⊥
supremum_below input budget g a b p q one other less =
    let near = other.approached a b one.fraction less in
    one.none_more near.0 near.1 near.2

supremum_same : (input : TableInput) (budget : BudgetInput) (g a b p q : ℕ) → IsSupremum input budget g a b → IsSupremum input budget g p q → a * q ≡ p * b
supremum_same input budget g a b p q one other = elim (cases_lt (a * q) (p * b)) [
  | inl less ↦ absurd (supremum_below input budget g a b p q one other less)
  | inr l ↦ elim (cases_lt (p * b) (a * q)) [
    | inl more ↦ absurd (supremum_below input budget g p q a b other one more)
    | inr m ↦ omega (arith, l, m)
  ]
]

times : (x y k : ℕ) → x ≤ y → x * k ≤ y * k
times x y zero l = omega arith
times x y (suc k) l = let r = times x y k l in omega (arith, r, l)

-- a fraction of a bundle's cost that is no more than that cost is no more than another that is just it
no_more : (a b p q spent den : ℕ) → 0 < den → spent * b ≡ a * den → p * den ≤ spent * q → p * b ≤ a * q
no_more a b p q spent den some costs least = elim (cases_lt (a * q) (p * b)) [
  | inl less ↦ absurd (
      let l = times (p * den) (spent * q) b least in
      let e = ap (λ n. n * q) costs in
      let m = times (a * q + 1) (p * b) den (omega (arith, less)) in
      omega (arith, l, e, m, some))
  | inr l ↦ l
]

least_cost_same : (input : TableInput) (prices : ℕ → ℕ) (t a b p q : ℕ) → IsLowerWelfare input prices t a b → IsLowerWelfare input prices t p q → a * q ≡ p * b
least_cost_same input prices t a b p q one other =
    let here = one.reached in
    let there = other.reached in
    let up = no_more a b p q (spending input.goods prices here.0.num) here.0.den here.1.fraction here.2 (other.none_less here.0 here.1) in
    let down = no_more p q a b (spending input.goods prices there.0.num) there.0.den there.1.fraction there.2 (one.none_less there.0 there.1) in
    omega (arith, up, down)

greatest_cost_same : (input : TableInput) (prices : ℕ → ℕ) (t s cost r other : ℕ) → IsUpperWelfare input prices t s cost → IsUpperWelfare input prices t r other → cost ≡ other
greatest_cost_same input prices t s cost r other one also =
    let up = one.least r also.leads in
    let down = also.least s one.leads in
    let here = one.costs in
    let there = also.costs in
    omega (arith, up, down, here, there)

-- ---- one amount

scaled_same : (num den num' den' t : ℕ) (f g : Fraction) → 0 < den → 0 < den' → 0 < t → num * den' ≡ num' * den → IsLowestTerms num (den * t) f → IsLowestTerms num' (den' * t) g → f ≡ g
scaled_same num den num' den' t f g some some' some_t same one other =
    let e = one.same_number in
    let cross = ap (λ n. n * f.den) same in
    let wider = ap (λ n. n * den') e in
    let moved : f.num * (den' * t) ≡ num' * f.den = eq_of_mul-eq-mul_right den (omega (arith, some)) (f.num * (den' * t)) (num' * f.den) (omega (arith, cross, wider)) in
    let l : 1 ≤ den' = omega (arith, some') in
    let m : 1 ≤ t = omega (arith, some_t) in
    same_IsLowestTerms num' (den' * t) f g (one-le-mul l m) (record { positive = one.positive; coprime = one.coprime; same_number = moved }) other

amount_same : (places num den num' den' : ℕ) (side other : Side) → 0 < den → 0 < den' → num * den' ≡ num' * den → IsAmountOf places num den side → IsAmountOf places num' den' other → side ≡ other
amount_same places num den num' den' (Given f) (Given g) some some' same one also = ap Given (scaled_same num den num' den' (10 ^ places) f g some some' (let l = one-le-pow places 10 (omega arith) in omega (arith, l)) same one also)
amount_same places num den num' den' (Given f) Withheld some some' same one also = absurd also
amount_same places num den num' den' (Given f) Violated some some' same one also = absurd also
amount_same places num den num' den' Withheld other some some' same one also = absurd one
amount_same places num den num' den' Violated other some some' same one also = absurd one

-- two shown bounds are one number
abbrev AreOneNumber : Bound → Bound → Type 0
AreOneNumber (Shown value pair) (Shown other pair') = (0 < value.den) × (0 < other.den) × (value.num * other.den ≡ other.num * value.den)
AreOneNumber (Shown value pair) (Wide step) = Unit {0}
AreOneNumber (Wide step) other = Unit {0}

itself : (side : Side) → IsSameUnlessWithheld side side
itself (Given amount) = refl
itself Withheld = tt
itself Violated = tt

beside_withheld : (places num den : ℕ) (side : Side) → IsAmountOf places num den side → IsSameUnlessWithheld side Withheld × IsSameUnlessWithheld Withheld side
beside_withheld places num den (Given amount) is = (tt, tt)
beside_withheld places num den Withheld is = absurd is
beside_withheld places num den Violated is = absurd is

told_unless : (places : ℕ) (b c : Bound) (side other : Side) → AreOneNumber b c → IsSideOf places b side → IsSideOf places c other → IsSameUnlessWithheld side other
told_unless places (Shown v pair) (Shown w pair') side other one is also =
    subst (λ (o : Side). IsSameUnlessWithheld side o) (amount_same places v.num v.den w.num w.den side other one.0 one.1 one.2 is also) (itself side)
told_unless places (Shown v pair) (Wide step) side other one is also =
    subst (λ (o : Side). IsSameUnlessWithheld side o) (sym also) (beside_withheld places v.num v.den side is).0
told_unless places (Wide step) (Shown w pair) side other one is also =
    subst (λ (o : Side). IsSameUnlessWithheld o other) (sym is) (beside_withheld places w.num w.den other also).1
told_unless places (Wide step) (Wide step') side other one is also =
    subst (λ (o : Side). IsSameUnlessWithheld side o) (is ∙ sym also) (itself side)

-- what is told of two bounds of one run is the same
told_stated : (places : ℕ) (p : LinearProgram) (measure : (ℕ → ℕ) → ℕ) (b c : Bound) (side other : Side) → IsBoundOf p measure b → IsBoundOf p measure c → AreOneNumber b c → IsSideOf places b side → IsSideOf places c other → side ≡ other
told_stated places p measure (Shown v pair) (Shown w pair') side other run again one is also = amount_same places v.num v.den w.num w.den side other one.0 one.1 one.2 is also
told_stated places p measure (Shown v pair) (Wide step) side other run again one is also = absurd (cc ((run.withheld step).1 ((again.withheld step).0 refl)))
told_stated places p measure (Wide step) (Shown w pair) side other run again one is also = absurd (cc ((again.withheld step).1 ((run.withheld step).0 refl)))
told_stated places p measure (Wide step) (Wide step') side other run again one is also = is ∙ sym also

lower_numbers : (input : TableInput) (budget : BudgetInput) (g : ℕ) (b c : Bound) → ProvesLower input budget g b → ProvesLower input budget g c → AreOneNumber b c
lower_numbers input budget g (Shown v pair) (Shown w pair') one other = (one.fraction, other.fraction, infimum_same input budget g v.num v.den w.num w.den one other)
lower_numbers input budget g (Shown v pair) (Wide step) one other = tt
lower_numbers input budget g (Wide step) c one other = tt

upper_numbers : (input : TableInput) (budget : BudgetInput) (g : ℕ) (b c : Bound) → ProvesUpper input budget g b → ProvesUpper input budget g c → AreOneNumber b c
upper_numbers input budget g (Shown v pair) (Shown w pair') one other = (one.fraction, other.fraction, supremum_same input budget g v.num v.den w.num w.den one other)
upper_numbers input budget g (Shown v pair) (Wide step) one other = tt
upper_numbers input budget g (Wide step) c one other = tt

welfare_numbers : (input : TableInput) (prices : ℕ → ℕ) (t : ℕ) (b c : Bound) → ProvesLowerWelfare input prices t b → ProvesLowerWelfare input prices t c → AreOneNumber b c
welfare_numbers input prices t (Shown v pair) (Shown w pair') one other = (one.fraction, other.fraction, least_cost_same input prices t v.num v.den w.num w.den one other)
welfare_numbers input prices t (Shown v pair) (Wide step) one other = tt
welfare_numbers input prices t (Wide step) c one other = tt

-- ---- the sides of two pieces of evidence

violated_same : (s t : Sides) → AreViolated s → AreViolated t → (s.lower ≡ t.lower) × (s.upper ≡ t.upper)
violated_same s t one other = (one.lower ∙ sym other.lower, one.upper ∙ sym other.upper)

equal_is_same : (side other : Side) → side ≡ other → IsSameUnlessWithheld side other
equal_is_same side other e = subst (λ (o : Side). IsSameUnlessWithheld side o) e (itself side)

no_bounds : GoodBounds
no_bounds = record { lower = Wide 0; upper = Wide 0 }

module _ (table : Observations) (prices : List ℕ) (m g places : ℕ) (inside : g < goods_of table) where
  pub demand_unless : (e f : DemandPart) → ProvesDemand (input_of_table table) prices m e → ProvesDemand (input_of_table table) prices m f → (s t : Sides)
      → AreGoodSides places g e s → AreGoodSides places g f t → IsSameUnlessWithheld s.lower t.lower × IsSameUnlessWithheld s.upper t.upper
  demand_unless (Bounds below strict inner goods) (Bounds below' strict' inner' goods') p q s t one other =
      let here = p.1.each g no_bounds inside in
      let there = q.1.each g no_bounds inside in
      let b = slice_index_or goods g no_bounds in
      let c = slice_index_or goods' g no_bounds in (
        told_unless places b.lower c.lower s.lower t.lower (lower_numbers (input_of_table table) (budget_of prices m) g b.lower c.lower here.0 there.0) (one no_bounds).lower (other no_bounds).lower,
        told_unless places b.upper c.upper s.upper t.upper (upper_numbers (input_of_table table) (budget_of prices m) g b.upper c.upper here.1 there.1) (one no_bounds).upper (other no_bounds).upper,
      )
  demand_unless (Bounds below strict inner goods) (NoModel walk) p q s t one other = absurd (p.1.sound walk q)
  demand_unless (NoModel walk) (Bounds below strict inner goods) p q s t one other = absurd (q.1.sound walk p)
  demand_unless (NoModel walk) (NoModel walk') p q s t one other =
      let same = violated_same s t one other in (equal_is_same s.lower t.lower same.0, equal_is_same s.upper t.upper same.1)

  bounds_of : (garp : Garp) (below strict : List ℕ) (inner : Point) (goods : List GoodBounds) → IsDemandVerdict (input_of_table table) (budget_of prices m) garp (Bounds below strict inner goods) → AreBoundsOf (input_of_table table) (budget_of prices m) below goods
  bounds_of (Ranks ranks) below strict inner goods v = v.1
  bounds_of (Cycle walk) below strict inner goods v = absurd v

  pub demand_stated : (e f : DemandPart) → ProvesDemand (input_of_table table) prices m e → ProvesDemand (input_of_table table) prices m f → demand_as_stated table prices m e → demand_as_stated table prices m f → (s t : Sides)
      → AreGoodSides places g e s → AreGoodSides places g f t → (s.lower ≡ t.lower) × (s.upper ≡ t.upper)
  demand_stated (Bounds below strict inner goods) (Bounds below' strict' inner' goods') p q v w s t one other =
      let input = input_of_table table in
      let budget = budget_of prices m in
      let here = p.1.each g no_bounds inside in
      let there = q.1.each g no_bounds inside in
      let b = slice_index_or goods g no_bounds in
      let c = slice_index_or goods' g no_bounds in
      let same = enumeration_is_one input.n (IsBelow input budget) below' below q.1.below_listed p.1.below_listed in
      let runs = bounds_of v.0 below strict inner goods v.2 in
      let again = subst (λ (l : List ℕ). AreBoundsOf input budget l goods') same (bounds_of w.0 below' strict' inner' goods' w.2) in (
        told_stated places (lower_program input budget below g) (λ x. x g) b.lower c.lower s.lower t.lower (runs.lower g no_bounds inside) (again.lower g no_bounds inside)
            (lower_numbers input budget g b.lower c.lower here.0 there.0) (one no_bounds).lower (other no_bounds).lower,
        told_stated places (upper_program input budget below g) (λ x. x g) b.upper c.upper s.upper t.upper (runs.upper g no_bounds inside) (again.upper g no_bounds inside)
            (upper_numbers input budget g b.upper c.upper here.1 there.1) (one no_bounds).upper (other no_bounds).upper,
      )
  demand_stated (Bounds below strict inner goods) (NoModel walk) p q v w s t one other = absurd (p.1.sound walk q)
  demand_stated (NoModel walk) (Bounds below strict inner goods) p q v w s t one other = absurd (q.1.sound walk p)
  demand_stated (NoModel walk) (NoModel walk') p q v w s t one other = violated_same s t one other

module _ (table : Observations) (prices : List ℕ) (at places : ℕ) where
  pub welfare_unless : (e f : WelfarePart) → ProvesWelfare (input_of_table table) prices at e → ProvesWelfare (input_of_table table) prices at f → (s t : Sides)
      → AreWelfareSides places e s → AreWelfareSides places f t → IsSameUnlessWithheld s.lower t.lower × (s.upper ≡ t.upper)
  welfare_unless (WelfareBounds upper place lower) (WelfareBounds upper' place' lower') p q s t one other =
      let input = input_of_table table in
      let same = greatest_cost_same input (slice_index prices) at place upper place' upper' p.1.upper_is q.1.upper_is in (
        told_unless places lower lower' s.lower t.lower (welfare_numbers input (slice_index prices) at lower lower' p.1.lower_is q.1.lower_is) one.0 other.0,
        amount_same places upper 1 upper' 1 s.upper t.upper (omega arith) (omega arith) (omega (arith, same)) one.1 other.1,
      )
  welfare_unless (WelfareBounds upper place lower) (NoWelfare walk) p q s t one other = absurd (p.1.sound walk q)
  welfare_unless (NoWelfare walk) (WelfareBounds upper place lower) p q s t one other = absurd (q.1.sound walk p)
  welfare_unless (NoWelfare walk) (NoWelfare walk') p q s t one other =
      let same = violated_same s t one other in (equal_is_same s.lower t.lower same.0, same.1)

  lower_of : (garp : Garp) (upper place : ℕ) (lower : Bound) → IsWelfareVerdict (input_of_table table) prices at garp (WelfareBounds upper place lower) → IsLowerBound (input_of_table table) (slice_index prices) at lower
  lower_of garp upper place lower v = v.lower_is

  pub welfare_stated : (e f : WelfarePart) → ProvesWelfare (input_of_table table) prices at e → ProvesWelfare (input_of_table table) prices at f → welfare_as_stated table prices at e → welfare_as_stated table prices at f → (s t : Sides)
      → AreWelfareSides places e s → AreWelfareSides places f t → (s.lower ≡ t.lower) × (s.upper ≡ t.upper)
  welfare_stated (WelfareBounds upper place lower) (WelfareBounds upper' place' lower') p q v w s t one other =
      let input = input_of_table table in
      let run = lower_of v.0 upper place lower v.2 in
      let also = lower_of w.0 upper' place' lower' w.2 in
      let same = enumeration_is_one input.n (EqualsOrReaches input at) also.reached run.reached also.listed run.listed in
      let again = subst (λ (l : List ℕ). IsBoundOf (least_cost_program input (slice_index prices) l) (spending input.goods (slice_index prices)) lower') same also.is_bound in (
        told_stated places (least_cost_program input (slice_index prices) run.reached) (spending input.goods (slice_index prices)) lower lower' s.lower t.lower run.is_bound again
            (welfare_numbers input (slice_index prices) at lower lower' p.1.lower_is q.1.lower_is) one.0 other.0,
        (welfare_unless (WelfareBounds upper place lower) (WelfareBounds upper' place' lower') p q s t one other).1,
      )
  welfare_stated (WelfareBounds upper place lower) (NoWelfare walk) p q v w s t one other = absurd (p.1.sound walk q)
  welfare_stated (NoWelfare walk) (WelfareBounds upper place lower) p q v w s t one other = absurd (q.1.sound walk p)
  welfare_stated (NoWelfare walk) (NoWelfare walk') p q v w s t one other = violated_same s t one other
