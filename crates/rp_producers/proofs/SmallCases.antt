-- The small cases of the definitions of requirement sets and of production sets.
use Rattle.std.proofs.Common.{◌≡◌, ℕ, zero, suc, ◌+◌, ◌*◌, ◌<◌, ◌≤◌, inl, inr, ap, refl, arith}
use Rattle.std.proofs.Math.Nat.{le_of_mul-le-mul_left, mul-le-mul_left}
use Rattle.rp_evidence.specs.Demand.{FractionBundle}
use Rattle.rp_evidence.specs.Input.{TableInput}
use Rattle.rp_people.specs.Bundles.{AreEqualInValue, IsBundle, mixture}
use Rattle.rp_producers.specs.ProductionSets.{IsConvexProductionSet, RationalizesProfit}
use Rattle.rp_producers.specs.RequirementSets.{AreConvex, AreRequirementSets, RationalizeCost}
use Rattle.rp_producers.specs.SmallSets.{either_suffices, inputs_of, just_one_suffices, some_output, sum_suffices}

-- ---- requirement sets

pub by_value : (goods output : ℕ) (suffices : ℕ → FractionBundle → Type 0) (x z : FractionBundle) → AreRequirementSets goods suffices → IsBundle x → IsBundle z → AreEqualInValue goods x z
    → suffices output x → suffices output z
by_value goods output suffices x z sets ix iz same e = sets.disposable output x z ix iz (λ g l. let h = same g l in omega arith) e

as_much : (g a b c d : ℕ) → g < 2 → a ≤ c → b ≤ d → (inputs_of a b).num g * 1 ≤ (inputs_of c d).num g * 1
as_much zero a b c d l h k = omega arith
as_much (suc zero) a b c d l h k = omega arith
as_much (suc (suc g)) a b c d l h k = absurd (omega arith)

pub more_of_one : (suffices : ℕ → FractionBundle → Type 0) → AreRequirementSets 2 suffices → suffices 3 (inputs_of 1 1) → suffices 2 (inputs_of 2 1)
more_of_one suffices sets e =
    sets.disposable 2 (inputs_of 1 1) (inputs_of 2 1) (omega arith) (omega arith) (λ g l. as_much g 1 1 2 1 l (omega arith) (omega arith))
    (sets.nested 2 3 (inputs_of 1 1) (omega arith) (omega arith) e)

-- half of 2 and none, and half of none and 2
half : ℕ → ℕ → FractionBundle
half a b = mixture 1 1 (inputs_of a 0) (inputs_of 0 b)

halves_suffice : (g : ℕ) → g < 2 → (half 2 2).num g * 1 ≤ (inputs_of 1 1).num g * (half 2 2).den
unfolding half
halves_suffice zero l = omega arith
halves_suffice (suc zero) l = omega arith
halves_suffice (suc (suc g)) l = absurd (omega arith)

pub halves : (suffices : ℕ → FractionBundle → Type 0) (output : ℕ) → AreRequirementSets 2 suffices → AreConvex suffices
    → suffices output (inputs_of 2 0) → suffices output (inputs_of 0 2) → suffices output (inputs_of 1 1)
unfolding half
halves suffices output sets convex one other =
    sets.disposable output (half 2 2) (inputs_of 1 1) (omega arith) (omega arith) halves_suffice
    (convex output 1 1 (inputs_of 2 0) (inputs_of 0 2) (omega arith) (omega arith) (omega arith) one other)

sum_nested : (low high d s : ℕ) → low ≤ high → high * d ≤ s → low * d ≤ s
sum_nested low high d s l h = let m : d * low ≤ d * high = mul-le-mul_left d l in omega arith

sum_more : (o d e a b c f : ℕ) → 0 < d → o * d ≤ a + b → a * e ≤ c * d → b * e ≤ f * d → o * e ≤ c + f
sum_more o d e a b c f some h k l =
    let m : e * (o * d) ≤ e * (a + b) = mul-le-mul_left e h in
    le_of_mul-le-mul_left {k = d} (omega arith) some

pub sums_suffice : AreRequirementSets 2 sum_suffices
sums_suffice = record {
  nested = λ low high x ix l e. (sum_nested low high x.den (x.num 0 + x.num 1) l e);
  disposable = λ output x z ix iz more e.
      (sum_more output x.den z.den (x.num 0) (x.num 1) (z.num 0) (z.num 1) ix e (more 0 (omega arith)) (more 1 (omega arith)));
}

sum_mixed : (o f s a b d e x w z v : ℕ) → (a + b) * o ≡ a * f + b * s → f * d ≤ x + w → s * e ≤ z + v → o * ((a + b) * (d * e)) ≤ (a * (x * e) + b * (z * d)) + (a * (w * e) + b * (v * d))
sum_mixed o f s a b d e x w z v same h k =
    let m : (a * e) * (f * d) ≤ (a * e) * (x + w) = mul-le-mul_left (a * e) h in
    let n : (b * d) * (s * e) ≤ (b * d) * (z + v) = mul-le-mul_left (b * d) k in
    let q = ap (λ t. (d * e) * t) same in
    omega arith

pub sums_convex : AreConvex sum_suffices
sums_convex output a b x z some ix iz one other =
    (sum_mixed output output output a b x.den z.den (x.num 0) (x.num 1) (z.num 0) (z.num 1) (omega arith) one other)

two_more : (d e a c : ℕ) → 0 < d → 2 * d ≤ a → a * e ≤ c * d → 2 * e ≤ c
two_more d e a c some h k =
    let m : e * (2 * d) ≤ e * a = mul-le-mul_left e h in
    le_of_mul-le-mul_left {k = d} (omega arith) some

pub either_suffice : AreRequirementSets 2 either_suffices
either_suffice = record {
  nested = λ low high x ix l e. e;
  disposable = λ output x z ix iz more e. elim e [
    | inl h ↦ inl (two_more x.den z.den (x.num 0) (z.num 0) ix h (more 0 (omega arith)))
    | inr h ↦ inr (two_more x.den z.den (x.num 1) (z.num 1) ix h (more 1 (omega arith)))
  ];
}

pub either_not_convex : ¬ AreConvex either_suffices
either_not_convex convex =
    elim (convex 0 1 1 (inputs_of 2 0) (inputs_of 0 2) (omega arith) (omega arith) (omega arith) (inl (omega arith)) (inr (omega arith))) [
      | inl l ↦ absurd (omega (arith, l))
      | inr l ↦ absurd (omega (arith, l))
    ]

pub one_not_disposable : ¬ AreRequirementSets 1 just_one_suffices
one_not_disposable sets =
    let e = sets.disposable 0 (inputs_of 1 0) (inputs_of 2 0) (omega arith) (omega arith) more refl in
    absurd (omega (arith, e))
  where
    more : (g : ℕ) → g < 1 → (inputs_of 1 0).num g * 1 ≤ (inputs_of 2 0).num g * 1
    more zero l = omega arith
    more (suc g) l = absurd (omega arith)

pub output_not_nested : ¬ AreRequirementSets 1 some_output
output_not_nested sets = let l = sets.nested 0 1 (inputs_of 0 0) (omega arith) (omega arith) (omega arith) in absurd (omega (arith, l))

-- ---- what rationalizes

pub none_suffices : (input : TableInput) (y : ℕ → ℕ) → 0 < input.n → ¬ RationalizeCost input y (λ output x. ⊥)
none_suffices input y some is = is.enough 0 some

pub none_feasible : (input : TableInput) (y p : ℕ → ℕ) → 0 < input.n → ¬ RationalizesProfit input y p (λ output x. ⊥)
none_feasible input y p some is = is.has_each 0 some

-- ---- production sets

pub less_output : (goods low high : ℕ) (feasible : ℕ → FractionBundle → Type 0) (x : FractionBundle) → IsConvexProductionSet goods feasible → IsBundle x → low ≤ high
    → feasible high x → feasible low x
less_output goods low high feasible x set ix l e = set.disposable low high x x ix ix l (λ g k. omega arith) e

pub feasible_by_value : (goods output : ℕ) (feasible : ℕ → FractionBundle → Type 0) (x z : FractionBundle) → IsConvexProductionSet goods feasible → IsBundle x → IsBundle z → AreEqualInValue goods x z
    → feasible output x → feasible output z
feasible_by_value goods output feasible x z set ix iz same e = set.disposable output output x z ix iz (omega arith) (λ g l. let h = same g l in omega arith) e

pub halfway : (feasible : ℕ → FractionBundle → Type 0) → IsConvexProductionSet 2 feasible → feasible 1 (inputs_of 2 0) → feasible 3 (inputs_of 0 2)
    → feasible 2 (inputs_of 1 1)
unfolding half
halfway feasible set one other =
    set.disposable 2 2 (half 2 2) (inputs_of 1 1) (omega arith) (omega arith) (omega arith) halves_suffice
    (set.convex 2 1 3 1 1 (inputs_of 2 0) (inputs_of 0 2) (omega arith) (omega arith) (omega arith) refl one other)

pub sums_feasible : IsConvexProductionSet 2 sum_suffices
sums_feasible = record {
  disposable = λ low high x z ix iz l more e.
      (sum_nested low high z.den (z.num 0 + z.num 1) l
      (sum_more high x.den z.den (x.num 0) (x.num 1) (z.num 0) (z.num 1) ix e (more 0 (omega arith)) (more 1 (omega arith))));
  convex = λ output first second a b x z some ix iz same one other.
      (sum_mixed output first second a b x.den z.den (x.num 0) (x.num 1) (z.num 0) (z.num 1) same one other);
}

pub output_not_disposable : ¬ IsConvexProductionSet 1 some_output
output_not_disposable set = let l = set.disposable 0 1 (inputs_of 0 0) (inputs_of 0 0) (omega arith) (omega arith) (omega arith) (λ g l. omega arith) (omega arith) in absurd (omega (arith, l))
