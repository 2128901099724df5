-- What holds the definitions of evidence in place of which a law uses one direction alone: the number that each of them
-- says to be the least, the greatest or the bound is one number.
use Rattle.std.proofs.Common.{◌≡◌, ℕ, ◌*◌, ◌<◌, ◌≤◌, inl, inr, List, length, ap, subst, sym, arith}
use Rattle.std.proofs.lemmas.Bool.{cases_lt}
use Rattle.std.proofs.lemmas.Int.{ints}
use Rattle.std.proofs.Math.Nat.{le_of_mul-le-mul_left, mul-le-mul_left}
use Rattle.std.specs.Prelude.{ℤ, ◌≤ℤ◌, slice_index}
use Rattle.rp_evidence.specs.Demand.{BudgetInput, IsInfimum, IsInnerStart, IsSupremum, spending}
use Rattle.rp_evidence.specs.Input.{TableInput}
use Rattle.rp_evidence.specs.Quasilinear.{IsLeastSum}
use Rattle.rp_evidence.specs.Walk.{IsShortestWalk}
use Rattle.rp_evidence.specs.Welfare.{IsLowerWelfare, IsUpperWelfare}

-- neither fraction is below the other
pub one_number : (a b c d : ℕ) → ¬ (a * d < c * b) → ¬ (c * b < a * d) → a * d ≡ c * b
one_number a b c d none_below none_above = elim (cases_lt (a * d) (c * b)) [
  | inl l ↦ absurd (none_below l)
  | inr l ↦ elim (cases_lt (c * b) (a * d)) [ inl k ↦ absurd (none_above k) | inr k ↦ omega arith ]
]

module _ (input : TableInput) (budget : BudgetInput) (g num den num' den' : ℕ) where
  infimum_is_one : IsInfimum input budget g num den → IsInfimum input budget g num' den' → num * den' ≡ num' * den
  infimum_is_one is other =
      one_number num den num' den'
      (λ l. let r = is.approached num' den' other.fraction l in other.none_less r.0 r.1 r.2)
      (λ l. let r = other.approached num den is.fraction l in is.none_less r.0 r.1 r.2)

  supremum_is_one : IsSupremum input budget g num den → IsSupremum input budget g num' den' → num * den' ≡ num' * den
  supremum_is_one is other =
      one_number num den num' den'
      (λ l. let r = other.approached num den is.fraction l in is.none_more r.0 r.1 r.2)
      (λ l. let r = is.approached num' den' other.fraction l in other.none_more r.0 r.1 r.2)

-- a bundle costs a/b and at least c/d
at_least : (a b c d k u : ℕ) → 0 < u → k * b ≡ a * u → c * u ≤ k * d → c * b ≤ a * d
at_least a b c d k u some costs least =
    let m : b * (c * u) ≤ b * (k * d) = mul-le-mul_left b least in
    let e = ap (λ z. z * d) costs in
    le_of_mul-le-mul_left {k = u} (omega arith) some

module _ (input : TableInput) (prices : ℕ → ℕ) (t : ℕ) where
  lower_welfare_is_one : (num den num' den' : ℕ) → IsLowerWelfare input prices t num den → IsLowerWelfare input prices t num' den' → num * den' ≡ num' * den
  lower_welfare_is_one num den num' den' is other =
      let r = is.reached in
      let q = other.reached in
      let low = at_least num den num' den' (spending input.goods prices r.0.num) r.0.den r.1.fraction r.2 (other.none_less r.0 r.1) in
      let high = at_least num' den' num den (spending input.goods prices q.0.num) q.0.den q.1.fraction q.2 (is.none_less q.0 q.1) in
      omega arith

  upper_welfare_is_one : (s cost r cost' : ℕ) → IsUpperWelfare input prices t s cost → IsUpperWelfare input prices t r cost' → cost ≡ cost'
  upper_welfare_is_one s cost r cost' is other =
      let low = is.least r other.leads in
      let high = other.least s is.leads in
      omega (arith, is.costs, other.costs)

least_sum_is_one : (n : ℕ) (c : ℕ → ℕ → ℕ) (s : ℕ) (x y : ℤ) → IsLeastSum n c s x → IsLeastSum n c s y → x ≡ y
least_sum_is_one n c s x y is other =
    let p = is.reached in
    let q = other.reached in
    both x y (subst (λ z. x ≤ℤ z) q.3 (is.lowest q.0 q.1 q.2)) (subst (λ z. y ≤ℤ z) p.3 (other.lowest p.0 p.1 p.2))
  where
    both : (x y : ℤ) → x ≤ℤ y → y ≤ℤ x → x ≡ y
    both x y l k = omega (arith, ints)

shortest_walks_are_as_long : (n : ℕ) (step : ℕ → ℕ → Type 0) (s t : ℕ) (walk other : List ℕ) → IsShortestWalk n step s t walk → IsShortestWalk n step s t other → length walk ≡ length other
shortest_walks_are_as_long n step s t walk other is also =
    let low = is.fewest other also.leads also.has_step in
    let high = also.fewest walk is.leads is.has_step in
    omega arith

inner_start_is_one : (input : TableInput) (budget : BudgetInput) (counts : List ℕ) (s t : ℕ) → IsInnerStart input budget counts s → IsInnerStart input budget counts t → s ≡ t
inner_start_is_one input budget counts s t is other =
    let low = is.greatest t other.observed other.bought in
    let high = other.greatest s is.observed is.bought in
    let same : slice_index counts t ≡ slice_index counts s = omega arith in
    let cheap = is.cheapest t other.observed other.bought same in
    let dear = other.cheapest s is.observed is.bought (sym same) in
    elim (cases_lt s t) [
      | inl l ↦ let k = other.first s l is.bought (sym same) in absurd (omega arith)
      | inr l ↦ elim (cases_lt t s) [
        | inl m ↦ let k = is.first t m other.bought same in absurd (omega arith)
        | inr m ↦ omega arith
      ]
    ]
