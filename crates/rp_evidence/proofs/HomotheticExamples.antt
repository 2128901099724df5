-- The homothetic test at worked values.
use Rattle.std.proofs.Common.{◌≡◌, ℕ, zero, suc, ◌+◌, ◌*◌, ◌<◌, ◌≤◌, List, [], ◌∷◌, get_or, arith, refl}
use Rattle.rp_num.specs.Fraction.{Fraction}
use Rattle.rp_evidence.specs.Walk.{AnyStep, LeadsTo}
use Rattle.rp_evidence.specs.Homothetic.{BoundProducts, EndsBelow, IsFallingCycle, MeetsHomotheticTest, next_product, spent_product, product_from, value_at}

abbrev costs : List ℕ → ℕ → ℕ → ℕ
costs entries s t = get_or entries (s * 2 + t) 0

-- 5, 4; 4, 5: around the two observations the product is 16/25
crossed : next_product (costs (5 ∷ 4 ∷ 4 ∷ 5 ∷ [])) (0 ∷ 1 ∷ 0 ∷ []) ≡ 16
crossed = refl

spent : spent_product (costs (5 ∷ 4 ∷ 4 ∷ 5 ∷ [])) (0 ∷ 1 ∷ 0 ∷ []) ≡ 25
spent = refl

falls : IsFallingCycle 2 (costs (5 ∷ 4 ∷ 4 ∷ 5 ∷ [])) (0 ∷ 1 ∷ 0 ∷ [])
falls = record { closed = (0, (refl, (omega arith, tt, (omega arith, tt, (omega arith, refl)))), omega arith); falls = omega arith }

below_one : EndsBelow (costs (5 ∷ 4 ∷ 4 ∷ 5 ∷ [])) (record { num = 1; den = 1 }) (0 ∷ 1 ∷ 0 ∷ [])
below_one = omega arith

-- no start of 0 ends below itself
not_from_zero : ¬ (EndsBelow (costs (5 ∷ 4 ∷ 4 ∷ 5 ∷ [])) (record { num = 0; den = 1 }) (0 ∷ 1 ∷ 0 ∷ []))
not_from_zero h = omega arith

-- with the bundles exchanged the test does not find that walk
not_falls : ¬ (IsFallingCycle 2 (costs (4 ∷ 5 ∷ 5 ∷ 4 ∷ [])) (0 ∷ 1 ∷ 0 ∷ []))
not_falls h = omega (arith, h.falls)

-- a walk that is not closed is no cycle, however much it falls
not_closed : ¬ (IsFallingCycle 2 (costs (5 ∷ 4 ∷ 4 ∷ 5 ∷ [])) (0 ∷ 1 ∷ []))
not_closed h = omega (arith, h.closed.1.0, h.closed.1.1.2.1)

fails : ¬ (MeetsHomotheticTest 2 (costs (5 ∷ 4 ∷ 4 ∷ 5 ∷ [])))
fails holds = omega (arith, holds (0 ∷ 1 ∷ 0 ∷ []) falls.closed)

-- 8, 4; 8, 4: the values 1 and 1/2 bound the products, and 1 and 1/3 do not
abbrev halves : List Fraction
halves = record { num = 1; den = 1 } ∷ record { num = 1; den = 2 } ∷ []

abbrev thirds : List Fraction
thirds = record { num = 1; den = 1 } ∷ record { num = 1; den = 3 } ∷ []

bounded : BoundProducts 2 (costs (8 ∷ 4 ∷ 8 ∷ 4 ∷ [])) halves
bounded = record { one_each = refl; positive = positive; each = each }
  where
    positive : (s : ℕ) → s < 2 → (1 ≤ (value_at halves s).num) × (1 ≤ (value_at halves s).den)
    positive zero h = (omega arith, omega arith)
    positive (suc zero) h = (omega arith, omega arith)
    positive (suc (suc s)) h = absurd (omega arith)

    each : (t s : ℕ) → t < 2 → s < 2 → (value_at halves s).num * ((value_at halves t).den * costs (8 ∷ 4 ∷ 8 ∷ 4 ∷ []) t t) ≤ ((value_at halves t).num * costs (8 ∷ 4 ∷ 8 ∷ 4 ∷ []) t s) * (value_at halves s).den
    each zero zero h g = omega arith
    each zero (suc zero) h g = omega arith
    each zero (suc (suc s)) h g = absurd (omega arith)
    each (suc zero) zero h g = omega arith
    each (suc zero) (suc zero) h g = omega arith
    each (suc zero) (suc (suc s)) h g = absurd (omega arith)
    each (suc (suc t)) s h g = absurd (omega arith)

not_bounded : ¬ (BoundProducts 2 (costs (8 ∷ 4 ∷ 8 ∷ 4 ∷ [])) thirds)
not_bounded b = omega (arith, b.each 1 0 (omega arith) (omega arith))

-- one observation meets the test, whatever it costs
one_observation : (c : ℕ → ℕ → ℕ) → MeetsHomotheticTest 1 c
one_observation c [] closed = absurd closed.1
one_observation c (x ∷ rest) closed = omega (arith, same x closed.0 rest closed.1.1)
  where
    begins : (x s : ℕ) (rest : List ℕ) → LeadsTo 1 AnyStep x s rest → x < 1
    begins x s [] h = h.0
    begins x s (y ∷ rest) h = h.0

    same : (t s : ℕ) (rest : List ℕ) → LeadsTo 1 AnyStep t s rest → product_from (λ i j. c i i) t rest ≡ product_from c t rest
    same t s [] h = refl
    same t s (x ∷ rest) h =
        let e : t ≡ x = omega (arith, h.0, begins x s rest h.2) in
        let d = same x s rest h.2 in
        λ i. c t (e i) * d i
