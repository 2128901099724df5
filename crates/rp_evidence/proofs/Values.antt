-- Values that bound every step bound every walk, and so a closed walk does not fall.
use Rattle.std.proofs.Common.{◌*◌, ◌≤◌, ℕ, ℤ, pos, ◌+ℤ◌, ◌<ℤ◌, ◌≤ℤ◌, List, [], ◌∷◌, arith, get_or, subst, sym}
use Rattle.std.proofs.lemmas.Int.{ints}
use Rattle.std.proofs.Math.Nat.{le_of_mul-le-mul_right, mul-le-mul, one-le-mul}
use Rattle.rp_num.specs.Fraction.{Fraction}
use Rattle.rp_evidence.specs.Homothetic.{BoundProducts, MeetsHomotheticTest, product_from, value_at}
use Rattle.rp_evidence.specs.Quasilinear.{BoundSteps, MeetsQuasilinearTest, step_sum, sum_from}
use Rattle.rp_evidence.specs.Walk.{AnyStep, LeadsTo}
use Rattle.rp_evidence.proofs.Walks.{starts_below}

-- ---- sums

more_steps : (a b d k z : ℤ) → b ≤ℤ (a +ℤ k) → d ≤ℤ (b +ℤ z) → d ≤ℤ (a +ℤ (k +ℤ z))
more_steps a b d k z h g = omega (arith, ints)

sum_along : (n : ℕ) (c : ℕ → ℕ → ℕ) (values : List ℤ) → BoundSteps n c values → (t e : ℕ) (rest : List ℕ) → LeadsTo n AnyStep t e rest → get_or values e (pos 0) ≤ℤ (get_or values t (pos 0) +ℤ sum_from c t rest)
sum_along n c values bound t e [] leads =
    subst (λ m. get_or values m (pos 0) ≤ℤ (get_or values t (pos 0) +ℤ pos 0)) leads.1 (stays (get_or values t (pos 0)))
  where
    stays : (a : ℤ) → a ≤ℤ (a +ℤ pos 0)
    stays a = omega (arith, ints)
sum_along n c values bound t e (s ∷ rest) leads =
    let hs = starts_below n AnyStep s e rest leads.2 in
    more_steps (get_or values t (pos 0)) (get_or values s (pos 0)) (get_or values e (pos 0)) (step_sum c t s) (sum_from c s rest)
    (bound.each t s leads.0 hs) (sum_along n c values bound s e rest leads.2)

pub bound_steps_meet_test : (n : ℕ) (c : ℕ → ℕ → ℕ) (values : List ℤ) → BoundSteps n c values → MeetsQuasilinearTest n c
bound_steps_meet_test n c values bound [] cycle = absurd cycle.closed.1
bound_steps_meet_test n c values bound (x ∷ rest) cycle =
    let s = cycle.closed.0 in
    let begins = cycle.closed.1.0 in
    let along = sum_along n c values bound x s rest cycle.closed.1.1 in
    let round = subst (λ m. get_or values m (pos 0) ≤ℤ (get_or values x (pos 0) +ℤ sum_from c x rest)) (sym begins) along in
    falls (get_or values x (pos 0)) (sum_from c x rest) round cycle.negative
  where
    falls : (a z : ℤ) → a ≤ℤ (a +ℤ z) → z <ℤ pos 0 → ⊥
    falls a z h g = absurd (omega (arith, ints))

-- ---- products

-- from v/w to a/b by p/q, and from there to d/e by k/m: all in all at most p * k over q * m
more_factors : (v w a b d e p q k m : ℕ) → 1 ≤ a → 1 ≤ b → a * (w * q) ≤ (v * p) * b → d * (b * m) ≤ (a * k) * e → d * (w * (q * m)) ≤ (v * (p * k)) * e
more_factors v w a b d e p q k m ha hb h g =
    let both = mul-le-mul h g in
    le_of_mul-le-mul_right {m = d * (w * (q * m))} {n = (v * (p * k)) * e} (omega (arith, both)) (one-le-mul ha hb)

product_along : (n : ℕ) (c : ℕ → ℕ → ℕ) (values : List Fraction) → BoundProducts n c values → (t e : ℕ) (rest : List ℕ) → LeadsTo n AnyStep t e rest
    → (value_at values e).num * ((value_at values t).den * product_from (λ i j. c i i) t rest) ≤ ((value_at values t).num * product_from c t rest) * (value_at values e).den
product_along n c values bound t e [] leads =
    subst (λ m. (value_at values m).num * ((value_at values t).den * 1) ≤ ((value_at values t).num * 1) * (value_at values m).den) leads.1
    (stays (value_at values t).num (value_at values t).den)
  where
    stays : (a b : ℕ) → a * (b * 1) ≤ (a * 1) * b
    stays a b = omega arith
product_along n c values bound t e (s ∷ rest) leads =
    let hs = starts_below n AnyStep s e rest leads.2 in
    let there = bound.positive s hs in
    more_factors (value_at values t).num (value_at values t).den (value_at values s).num (value_at values s).den (value_at values e).num (value_at values e).den
    (c t s) (c t t) (product_from c s rest) (product_from (λ i j. c i i) s rest) there.0 there.1
    (bound.each t s leads.0 hs) (product_along n c values bound s e rest leads.2)

pub bound_products_meet_test : (n : ℕ) (c : ℕ → ℕ → ℕ) (values : List Fraction) → BoundProducts n c values → MeetsHomotheticTest n c
bound_products_meet_test n c values bound [] closed = absurd closed.1
bound_products_meet_test n c values bound (x ∷ rest) closed =
    let s = closed.0 in
    let hx = starts_below n AnyStep x s rest closed.1.1 in
    let along = product_along n c values bound x s rest closed.1.1 in
    let round = subst (λ m. (value_at values m).num * ((value_at values x).den * product_from (λ i j. c i i) x rest) ≤ ((value_at values x).num * product_from c x rest) * (value_at values m).den)
    (sym closed.1.0) along in
    let here = bound.positive x hx in
    cancelled (value_at values x).num (value_at values x).den (product_from (λ i j. c i i) x rest) (product_from c x rest) here.0 here.1 round
  where
    cancelled : (a b p q : ℕ) → 1 ≤ a → 1 ≤ b → a * (b * p) ≤ (a * q) * b → p ≤ q
    cancelled a b p q ha hb h = le_of_mul-le-mul_right {m = p} {n = q} (omega (arith, h)) (one-le-mul ha hb)
