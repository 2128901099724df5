-- Two observations in the quasilinear test: the walk there and back is negative just where it costs less to swap their
-- bundles.
use Rattle.std.proofs.Common.{IsTrue, nat_lt, ◌+◌, ◌≡◌, ℕ, ◌<◌, ◌↔◌, arith}
use Rattle.std.proofs.lemmas.Int.{ints}
use Rattle.std.specs.Prelude.{pos, ◌+ℤ◌, ◌-ℤ◌, ◌<ℤ◌}
use Rattle.rp_walk.specs.Settled.{PairBreaks}
use Rattle.rp_walk.specs.Sums.{sums}
use Rattle.rp_walk.proofs.Numbers.{test, tested}
use Rattle.rp_walk.proofs.SumSteps.{breaks_by_sum}
use Rattle.rp_evidence.specs.Quasilinear.{step_sum}

around_costs : (a b c d : ℕ) → a + c < b + d → ((pos a -ℤ pos b) +ℤ (pos c -ℤ pos d)) <ℤ pos 0
around_costs a b c d h = omega (arith, ints)

costs_around : (a b c d : ℕ) → ((pos a -ℤ pos b) +ℤ (pos c -ℤ pos d)) <ℤ pos 0 → a + c < b + d
costs_around a b c d h = omega (arith, ints)

-- the walk s, t, s ends below every start exactly where the costs across are less than those of the two observations alone
pub breaks_by_costs : (n : ℕ) (c : ℕ → ℕ → ℕ) (s t : ℕ) → s < n → (c s t + c t s < c s s + c t t) ↔ PairBreaks (sums n (step_sum c)) s t
breaks_by_costs n c s t hs =
    let by_sum = breaks_by_sum n (step_sum c) s t hs in (
      λ h. by_sum.0 (around_costs (c s t) (c s s) (c t s) (c t t) h),
      λ breaks. costs_around (c s t) (c s s) (c t s) (c t t) (by_sum.1 breaks),
    )

-- the test of the code, on what the calls of `cost` gave
pub breaks_tested : (n : ℕ) (c : ℕ → ℕ → ℕ) (s t a b d e : ℕ) → s < n → a ≡ c s t → b ≡ c t s → d ≡ c s s → e ≡ c t t → IsTrue (nat_lt (a + b) (d + e)) ↔ PairBreaks (sums n (step_sum c)) s t
breaks_tested n c s t a b d e hs ea eb ed ee =
    let all = breaks_by_costs n c s t hs in
    (λ h. all.0 (less (tested (a + b) (d + e) h)), λ breaks. test (a + b) (d + e) (more (all.1 breaks)))
  where
    less : a + b < d + e → c s t + c t s < c s s + c t t
    less h = omega arith

    more : c s t + c t s < c s s + c t t → a + b < d + e
    more h = omega arith
