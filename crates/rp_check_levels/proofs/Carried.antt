-- Weights by the steps that carry them: what goes by some steps is carried by a family of steps that has each of them.
use Rattle.std.proofs.Common.{◌≡◌, ◌<◌, ◌≤◌, ◌+◌, ◌*◌, ◌||◌, ◌⊎◌, ℕ, zero, suc, Bool, true, false, List, [], ◌∷◌, inl, inr, refl, sym, ap, subst, ◌∙◌, arith, if◌then◌else◌, sum_by, Contains, length}
use Rattle.std.proofs.Math.Nat.{mul-le-mul_left}
use Rattle.std.proofs.lemmas.Bool.{false≢true}
use Rattle.std.proofs.lemmas.List.Sums.{sum_by-cons}
use Rattle.rp_table.specs.Sums.{sum_below}
use Rattle.rp_evidence.specs.Walk.{HasStepFrom, IsClosedWalk, LeadsTo}
use Rattle.rp_evidence.proofs.Walks.{starts_below}
use Rattle.rp_fit.specs.WeightedWalks.{goes_by, goes_from, weight_by, weight_of_all}
use Rattle.rp_fit.specs.declared.weighted.WeightedWalk.{WeightedWalk}

-- ---- sums below a bound

pub sum_is_monotone : (n : ℕ) (f g : ℕ → ℕ) → ((k : ℕ) → k < n → f k ≤ g k) → sum_below n f ≤ sum_below n g
sum_is_monotone zero f g each = omega arith
sum_is_monotone (suc n) f g each =
    let a = sum_is_monotone n f g (λ k l. each k (omega arith)) in
    let b = each n (omega arith) in
    omega (arith, a, b)

pub sum_has : (n : ℕ) (f : ℕ → ℕ) (k : ℕ) → k < n → f k ≤ sum_below n f
sum_has zero f k l = absurd (omega arith)
sum_has (suc n) f k l = go (λ m. sum_has n f k m) (k_cases k n l)
  where
    k_cases : (k n : ℕ) → k < suc n → (k < n) ⊎ (k ≡ n)
    k_cases k n l = grind arith

    go : (k < n → f k ≤ sum_below n f) → (k < n) ⊎ (k ≡ n) → f k ≤ sum_below n f + f n
    go earlier (inl m) = let a = earlier m in omega (arith, a)
    go earlier (inr e) = subst (λ z. f z ≤ sum_below n f + f n) (sym e) (omega arith)

pub sum_of_two : (n : ℕ) (f g : ℕ → ℕ) → sum_below n (λ k. f k + g k) ≡ sum_below n f + sum_below n g
sum_of_two zero f g = refl
sum_of_two (suc n) f g = let a = sum_of_two n f g in omega (arith, a)

pub sum_of_times : (n b : ℕ) (f : ℕ → ℕ) → sum_below n (λ k. b * f k) ≡ b * sum_below n f
sum_of_times zero b f = omega arith
sum_of_times (suc n) b f = let a = sum_of_times n b f in omega (arith, a)

-- ---- steps that a walk goes by

or_cases : (a b : Bool) → (a || b) ≡ true → (a ≡ true) ⊎ (b ≡ true)
or_cases true b h = inl refl
or_cases false b h = inr h

or_left : (a b : Bool) → a ≡ true → (a || b) ≡ true
or_left true b h = refl
or_left false b h = absurd (false≢true h)

or_right : (a b : Bool) → b ≡ true → (a || b) ≡ true
or_right true b h = refl
or_right false b h = h

pub goes_where : (these : ℕ → ℕ → Bool) (step : ℕ → ℕ → Type 0) → ((a b : ℕ) → step a b → these a b ≡ true) → (s : ℕ) (w : List ℕ) → HasStepFrom step s w → goes_from these s w ≡ true
goes_where these step holds s [] h = absurd h
goes_where these step holds s (x ∷ w) (inl h) = or_left (these s x) (goes_from these x w) (holds s x h)
goes_where these step holds s (x ∷ w) (inr h) = or_right (these s x) (goes_from these x w) (goes_where these step holds x w h)

-- the step by which it goes, between observations
pub step_of : (n : ℕ) (step : ℕ → ℕ → Type 0) (these : ℕ → ℕ → Bool) (s t : ℕ) (w : List ℕ) → LeadsTo n step s t w → goes_from these s w ≡ true
    → (a : ℕ) × (b : ℕ) × (a < n) × (b < n) × step a b × (these a b ≡ true) × ((more : ℕ → ℕ → Bool) → more a b ≡ true → goes_from more s w ≡ true)
step_of n step these s t [] h g = absurd (false≢true g)
step_of n step these s t (x ∷ w) h g = elim (or_cases (these s x) (goes_from these x w) g) [
  | inl e ↦ (s, x, h.0, starts_below n step x t w h.2, h.1, e, λ more m. or_left (more s x) (goes_from more x w) m)
  | inr e ↦ (let r = step_of n step these x t w h.2 e in (r.0, r.1, r.2, r.3, r.4, r.5, λ more m. or_right (more s x) (goes_from more x w) (r.6 more m)))
]

pub step_of_walk : (n : ℕ) (step : ℕ → ℕ → Type 0) (these : ℕ → ℕ → Bool) (walk : List ℕ) → IsClosedWalk n step walk → goes_by these walk ≡ true
    → (a : ℕ) × (b : ℕ) × (a < n) × (b < n) × step a b × (these a b ≡ true) × ((more : ℕ → ℕ → Bool) → more a b ≡ true → goes_by more walk ≡ true)
step_of_walk n step these [] closed g = absurd closed.1
step_of_walk n step these (x ∷ w) closed g = step_of n step these x closed.0 w closed.1.1 g

-- ---- weights

abbrev pub part_of : (ℕ → ℕ → Bool) → WeightedWalk → ℕ
part_of these each = if goes_by these each.walk then each.weight else 0

pub weight_by_one : (these : ℕ → ℕ → Bool) (each : WeightedWalk) (walks : List WeightedWalk) → weight_by these (each ∷ walks) ≡ part_of these each + weight_by these walks
weight_by_one these each walks = sum_by-cons (λ (w : WeightedWalk). if goes_by these w.walk then w.weight else 0) each walks

pub weight_of_one : (each : WeightedWalk) (walks : List WeightedWalk) → weight_of_all (each ∷ walks) ≡ each.weight + weight_of_all walks
weight_of_one each walks = sum_by-cons (λ (w : WeightedWalk). w.weight) each walks

part_at_most : (these : ℕ → ℕ → Bool) (each : WeightedWalk) → part_of these each ≤ each.weight
part_at_most these each = go (goes_by these each.walk)
  where
    go : (b : Bool) → (if b then each.weight else 0) ≤ each.weight
    go true = omega arith
    go false = omega arith

part_where : (these : ℕ → ℕ → Bool) (each : WeightedWalk) → goes_by these each.walk ≡ true → part_of these each ≡ each.weight
part_where these each e = ap (λ b. if b then each.weight else 0) e

-- a walk that goes by these goes by one of the family
abbrev pub IsCarried : ℕ → (ℕ → ℕ → Bool) → (ℕ → ℕ → ℕ → Bool) → WeightedWalk → Type 0
IsCarried n these family each = goes_by these each.walk ≡ true → (k : ℕ) × (k < n) × (goes_by (family k) each.walk ≡ true)

abbrev pub All_walks : List WeightedWalk → (WeightedWalk → Type 0) → Type 0
All_walks [] P = Unit {0}
All_walks (each ∷ walks) P = P each × All_walks walks P

part_is_carried : (n : ℕ) (these : ℕ → ℕ → Bool) (family : ℕ → ℕ → ℕ → Bool) (each : WeightedWalk) → IsCarried n these family each → part_of these each ≤ sum_below n (λ k. part_of (family k) each)
part_is_carried n these family each carried = go (goes_by these each.walk) refl
  where
    go : (b : Bool) → goes_by these each.walk ≡ b → (if b then each.weight else 0) ≤ sum_below n (λ k. part_of (family k) each)
    go false e = omega arith
    go true e =
        let k = carried e in
        let has = sum_has n (λ j. part_of (family j) each) k.0 k.1 in
        omega (arith, has, part_where (family k.0) each k.2)

no_weight : (n : ℕ) (family : ℕ → ℕ → ℕ → Bool) → 0 ≤ sum_below n (λ k. weight_by (family k) [])
no_weight n family = omega arith

same_sums : (n : ℕ) (f g : ℕ → ℕ) → ((s : ℕ) → s < n → f s ≡ g s) → sum_below n f ≡ sum_below n g
same_sums zero f g same = refl
same_sums (suc n) f g same =
    let a = same_sums n f g (λ s l. same s (omega arith)) in
    let b = same n (omega arith) in
    omega (arith, a, b)

pub weight_is_carried : (n : ℕ) (these : ℕ → ℕ → Bool) (family : ℕ → ℕ → ℕ → Bool) (walks : List WeightedWalk) → All_walks walks (IsCarried n these family) → weight_by these walks ≤ sum_below n (λ k. weight_by (family k) walks)
weight_is_carried n these family [] all = omega arith
weight_is_carried n these family (each ∷ walks) all =
    let here = part_is_carried n these family each all.0 in
    let more = weight_is_carried n these family walks all.1 in
    let one = weight_by_one these each walks in
    let ones = same_sums n (λ k. weight_by (family k) (each ∷ walks)) (λ k. part_of (family k) each + weight_by (family k) walks) (λ k l. weight_by_one (family k) each walks) in
    let two = sum_of_two n (λ k. part_of (family k) each) (λ k. weight_by (family k) walks) in
    omega (arith, here, more, one, ones, two)

-- all walks go by these
pub all_go : (these : ℕ → ℕ → Bool) (walks : List WeightedWalk) → All_walks walks (λ each. goes_by these each.walk ≡ true) → weight_of_all walks ≡ weight_by these walks
all_go these [] all = refl
all_go these (each ∷ walks) all =
    let here = part_where these each all.0 in
    let more = all_go these walks all.1 in
    omega (arith, here, more, weight_by_one these each walks, weight_of_one each walks)

-- a walk that goes by these goes by those
pub weight_is_monotone : (these those : ℕ → ℕ → Bool) (walks : List WeightedWalk) → All_walks walks (λ each. goes_by these each.walk ≡ true → goes_by those each.walk ≡ true) → weight_by these walks ≤ weight_by those walks
weight_is_monotone these those [] all = omega arith
weight_is_monotone these those (each ∷ walks) all =
    let more = weight_is_monotone these those walks all.1 in
    omega (arith, here (goes_by these each.walk) refl, more, weight_by_one these each walks, weight_by_one those each walks)
  where
    here : (b : Bool) → goes_by these each.walk ≡ b → (if b then each.weight else 0) ≤ part_of those each
    here false e = omega arith
    here true e = let p = part_where those each (all.0 e) in omega (arith, p)
