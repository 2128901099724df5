-- From what the rounds settle on to the words of the quasilinear test: least sums, values that bound the steps,
-- negative cycles; and sums of a table stay narrow enough for every walk that is tried.
use Rattle.std.proofs.Common.{◌*◌, ◌^◌, ap, subst, ◌≡◌, ℕ, ◌<◌, ◌≤◌, arith, refl, sym, ◌∙◌, List, [], ◌∷◌, length, get_or, ◌⊎◌, inl, inr}
use Rattle.std.proofs.lemmas.Int.{ints}
use Rattle.std.proofs.Math.Nat.{mul-le-mul_right}
use Rattle.std.specs.Prelude.{ℤ, pos, neg_ℤ, ◌+ℤ◌, ◌-ℤ◌, ◌<ℤ◌, ◌≤ℤ◌}
use Rattle.rp_walk.specs.ExactTotal.{ExactTotal}
use Rattle.rp_walk.specs.LeastTotals.{IsLeast}
use Rattle.rp_walk.specs.RoundWalk.{IsCutFromRounds}
use Rattle.rp_walk.specs.Settled.{FallsBelowStart, HasLeastTotals, NoPairBreaks}
use Rattle.rp_walk.specs.Outcome.{IsBreakingCycle, IsRoundCycle, SettlesInCycle, SettlesInWide}
use Rattle.rp_walk.specs.Sums.{FitsI128, sums, whole_total}
use Rattle.rp_walk.specs.InnerSums.{AddsWithin, added_along}
use Rattle.rp_walk.proofs.Leads.{leads_from, leads_to}
use Rattle.rp_walk.proofs.SumWalks.{least_sum_limits, negative_from, never_wide, no_negative_walk, sum_bound, sum_is, sum_lowest}
use Rattle.rp_evidence.specs.Walk.{AnyStep, IsWalk}
use Rattle.rp_evidence.specs.Quasilinear.{step_sum, sum_from, walk_sum, IsNegativeCycle, MeetsQuasilinearTest, IsLeastSum, BoundSteps}
use Rattle.rp_quasi.specs.QuasilinearVerdict.{GivesNegativeCycle, IsLimitedSum}
use Rattle.rp_limits.specs.declared.table.TheConstants.{RECORDS}

-- the sum of what the steps of a walk add, in the two ways of writing it
along_is : (c : ℕ → ℕ → ℕ) (t : ℕ) (rest : List ℕ) → added_along (step_sum c) t rest ≡ sum_from c t rest
along_is c t [] = refl
along_is c t (s ∷ rest) = ap (λ z. step_sum c t s +ℤ z) (along_is c s rest)

-- ---- the verdicts

pub IsLeastSum-least : (n : ℕ) (c : ℕ → ℕ → ℕ) (s : ℕ) (z : ℤ) → IsLeast (sums n (step_sum c)) s (whole_total z) → IsLeastSum n c s z
IsLeastSum-least n c s z least =
    let r = least.reached in
    let t = r.2 in
    record {
      reached = (
        t.first,
        t.first ∷ t.rest,
        (refl, leads_from n t.first s t.rest t.walk.begins_within t.walk.goes_within t.ends),
        sym (along_is c t.first t.rest) ∙ sum_is n (step_sum c) z r.1 t r.3,
      );
      lowest = λ t walk h. lowest t walk h;
    }
  where
    lowest : (t : ℕ) (walk : List ℕ) → IsWalk n AnyStep t s walk → z ≤ℤ walk_sum c walk
    lowest t [] h = absurd h
    lowest t (x ∷ rest) h =
        let way = leads_to (sums n (step_sum c)) x s rest h.1 in
        subst (λ v. z ≤ℤ v) (along_is c x rest) (sum_lowest n (step_sum c) s z least x rest way.0 way.1)

pub HasLeastTotals-values : (n : ℕ) (c : ℕ → ℕ → ℕ) (values : List ℤ) → ((s : ℕ) (d : ℤ) → s < n → IsLeast (sums n (step_sum c)) s (whole_total (get_or values s d))) → HasLeastTotals (sums n (step_sum c))
HasLeastTotals-values n c values least s hs = (whole_total (get_or values s (pos 0)), least s (pos 0) hs)

pub MeetsQuasilinearTest-least : (n : ℕ) (c : ℕ → ℕ → ℕ) → HasLeastTotals (sums n (step_sum c)) → MeetsQuasilinearTest n c
MeetsQuasilinearTest-least n c all [] cycle = absurd cycle.closed.1
MeetsQuasilinearTest-least n c all (x ∷ rest) cycle =
    let way = leads_to (sums n (step_sum c)) x cycle.closed.0 rest cycle.closed.1.1 in
    no_negative_walk n (step_sum c) all x rest way.0 (way.1 ∙ sym cycle.closed.1.0) (omega (arith, cycle.closed.2))
    (subst (λ z. z <ℤ pos 0) (sym (along_is c x rest)) cycle.negative)

pub IsNegativeCycle-falls : (n : ℕ) (c : ℕ → ℕ → ℕ) (start : ExactTotal) (walk : List ℕ) → FallsBelowStart (sums n (step_sum c)) start walk → IsNegativeCycle n c walk
IsNegativeCycle-falls n c start walk v =
    subst (λ (xs : List ℕ). IsNegativeCycle n c xs) (sym v.walk_is) (record {
      closed = (v.first, (refl, leads_from n v.first v.first v.rest v.is_walk.begins_within v.is_walk.goes_within v.closed), omega (arith, v.has_step));
      negative = subst (λ z. z <ℤ pos 0) (along_is c v.first v.rest) (negative_from n (step_sum c) start v.first v.rest v.ends_below);
    })

pub GivesNegativeCycle-settled : (n : ℕ) (c : ℕ → ℕ → ℕ) (start : ExactTotal) (walk : List ℕ) → SettlesInCycle (sums n (step_sum c)) FitsI128 start walk → GivesNegativeCycle n c walk
GivesNegativeCycle-settled n c start walk h = record {
  negative = IsNegativeCycle-falls n c start walk h.falls;
  simple = h.simple;
  start = start;
  comes = comes h.comes;
}
  where
    comes : IsBreakingCycle (sums n (step_sum c)) start walk ⊎ IsRoundCycle (sums n (step_sum c)) FitsI128 start walk → IsBreakingCycle (sums n (step_sum c)) start walk ⊎ (NoPairBreaks (sums n (step_sum c)) × IsCutFromRounds (sums n (step_sum c)) start walk)
    comes (inl p) = inl p
    comes (inr l) = inr (l.no_pair, l.first_part)

pub BoundSteps-least : (n : ℕ) (c : ℕ → ℕ → ℕ) (values : List ℤ) → length values ≡ n → ((s : ℕ) (d : ℤ) → s < n → IsLeast (sums n (step_sum c)) s (whole_total (get_or values s d))) → BoundSteps n c values
BoundSteps-least n c values len least = record {
  one_each = len;
  each = λ t s ht hs. sum_bound n (step_sum c) t s (get_or values t (pos 0)) (get_or values s (pos 0)) ht hs (least t (pos 0) ht) (least s (pos 0) hs);
}

-- ---- how far sums of a table go

step_within : (c : ℕ → ℕ → ℕ) → ((i j : ℕ) → c i j < 2 ^ 51) → (n : ℕ) → AddsWithin n (step_sum c) (2 ^ 51)
step_within c limit n t s ht hs = difference (c t s) (c t t) (limit t s) (limit t t)
  where
    difference : (a b : ℕ) → a < 2 ^ 51 → b < 2 ^ 51 → ((pos a -ℤ pos b) ≤ℤ pos (2 ^ 51)) × (neg_ℤ (pos (2 ^ 51)) ≤ℤ (pos a -ℤ pos b))
    difference a b ha hb = (omega (arith, ints), omega (arith, ints))

pub sums_stay_narrow : (n : ℕ) (c : ℕ → ℕ → ℕ) → n ≤ RECORDS → ((i j : ℕ) → c i j < 2 ^ 51) → (k t s : ℕ) → ¬ (SettlesInWide (sums n (step_sum c)) FitsI128 k t s)
sums_stay_narrow n c few limit =
    let far = mul-le-mul_right {m = n} {n = RECORDS} (2 ^ 51) few in
    never_wide n (step_sum c) (2 ^ 51) (step_within c limit n) (omega (arith, far))

pub IsLimitedSum-least : (n : ℕ) (c : ℕ → ℕ → ℕ) → n ≤ RECORDS → ((i j : ℕ) → c i j < 2 ^ 51) → (s : ℕ) (z : ℤ) → s < n → IsLeast (sums n (step_sum c)) s (whole_total z) → IsLimitedSum z
IsLimitedSum-least n c few limit s z hs least =
    let limits = least_sum_limits n (step_sum c) (2 ^ 51) (step_within c limit n) s z hs least in
    let far = mul-le-mul_right {m = n} {n = RECORDS} (2 ^ 51) few in
    record { at_most_zero = limits.0; above = above (n * 2 ^ 51) (omega (arith, far)) limits.1 }
  where
    above : (m : ℕ) → m < 2 ^ 100 → neg_ℤ (pos m) ≤ℤ z → neg_ℤ (pos (2 ^ 100)) <ℤ z
    above m small h = omega (arith, ints)
