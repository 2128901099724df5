-- A closed walk whose total is negative has a greater ratio, and the rounds end. Ratios with denominators up to 2^60
-- are at least 2^-120 apart, so the whole part of 2^122 times the ratio rises each round, and it is bounded.
use borrow.Author.Differences.{up, down}
use Rattle.std.proofs.Common.{◌+◌, ◌*◌, ◌-◌, ◌/◌, ◌%◌, ◌^◌, ap, subst, ◌≡◌, ◌≢◌, ℕ, suc, ◌<◌, ◌≤◌, arith, refl, sym, ◌∙◌, List, [], ◌∷◌, length, slice_index, ◌⊎◌, inl, inr}
use Rattle.std.proofs.lemmas.Bool.{cases_lt}
use Rattle.std.proofs.lemmas.Int.{ints}
use Rattle.std.proofs.lemmas.Nat.{div-add-mod', div_below, le-div, mul-le}
use Rattle.std.proofs.Math.Nat.{eq-one_of_dvd-one, lt_of_mul-lt-mul_right, mul-le-mul_right, mul-lt-mul_of_pos_right}
use Rattle.std.specs.Prelude.{ℤ, pos, ◌+ℤ◌, ◌-ℤ◌, ◌*ℤ◌, ◌<ℤ◌, ◌≤ℤ◌}
use Rattle.rp_num.specs.Fraction.{IsLowestTerms}
use Rattle.rp_walk.specs.ExactTotal.{ExactTotal}
use Rattle.rp_walk.specs.Walk.{AreObservations, IsSimpleCycle, end_of}
use Rattle.rp_walk.specs.Settled.{FallsBelowStart}
use Rattle.rp_walk.specs.Sums.{sums}
use Rattle.rp_walk.specs.InnerSums.{added_along}
use Rattle.rp_walk.proofs.Numbers.{parts_of_sum}
use Rattle.rp_walk.proofs.SumWalks.{negative_from}
use Rattle.rp_evidence.specs.Preference.{IsWeak}
use Rattle.rp_evidence.specs.Walk.{IsClosedWalk, LeadsTo}
use Rattle.rp_fit.specs.MoneyPump.{HasPumpRatio, gain, gain_from, spent_from, walk_spent}
use Rattle.rp_fit.specs.PumpTotals.{total_from}
use Rattle.rp_fit.specs.PumpEvidence.{IsWeakCycle}
use Rattle.rp_pump.specs.InnerBest.{IsBest}
use Rattle.rp_pump.specs.InnerTotal.{added}
use Rattle.rp_fit.specs.WalkSums.{steps_sum, next_sum}
use Rattle.rp_pump.proofs.SummedWalks.{ratio_by_sums}
use Rattle.rp_fit.proofs.PumpIndex.{gain_split, ratio_to, some_spent}
use Rattle.rp_pump.proofs.Totals.{IsSmall, added_itself, along_weak, bound, low_is_weak, step_other}

-- ---- no step of a simple cycle goes from an observation to itself

abbrev StepsDiffer : ℕ → List ℕ → Type 0
StepsDiffer s [] = Unit {0}
StepsDiffer s (t ∷ rest) = (s ≢ t) × StepsDiffer t rest

-- no two entries before the last are equal
abbrev AreDistinct : List ℕ → Type 0
AreDistinct walk = (i j : ℕ) → i < j → j + 1 < length walk → slice_index walk i ≢ slice_index walk j

differ_from : (e s t : ℕ) (rest : List ℕ) → AreDistinct (s ∷ t ∷ rest) → ((i : ℕ) → i + 1 < length (s ∷ t ∷ rest) → slice_index (s ∷ t ∷ rest) i ≢ e) → end_of t rest ≡ e → StepsDiffer s (t ∷ rest)
differ_from e s t [] distinct far ends = (λ p. far 0 (omega arith) (p ∙ ends), tt)
differ_from e s t (u ∷ rest) distinct far ends = (
  distinct 0 1 (omega arith) (omega arith),
  differ_from e t u rest (λ i j l h. distinct (suc i) (suc j) (omega arith) (omega arith)) (λ i h. far (suc i) (omega arith)) ends,
)

-- ---- where no step goes from an observation to itself, the total is what was spent times the ratio, less the gains

two_steps : (g h : ℤ) (num den spent more : ℕ) → (pos (num * spent) -ℤ (g *ℤ pos den)) +ℤ (pos (num * more) -ℤ (h *ℤ pos den)) ≡ pos (num * (spent + more)) -ℤ ((g +ℤ h) *ℤ pos den)
two_steps g h num den spent more =
    let e = ap (λ n. n * den) (parts_of_sum g h) in
    omega (arith, ints)

no_step : (num den : ℕ) → pos 0 ≡ pos (num * 0) -ℤ (pos 0 *ℤ pos den)
no_step num den = omega (arith, ints)

total_split : (c : ℕ → ℕ → ℕ) (num den s : ℕ) (rest : List ℕ) → StepsDiffer s rest → total_from c num den s rest ≡ pos (num * spent_from c s rest) -ℤ (gain_from c s rest *ℤ pos den)
total_split c num den s [] differ = no_step num den
total_split c num den s (t ∷ rest) differ =
    (λ i. step_other c num den s t differ.0 i +ℤ total_split c num den t rest differ.1 i)
    ∙ two_steps (gain c s t) (gain_from c t rest) num den (c s s) (spent_from c t rest)

less_in_numbers : (g : ℤ) (spent swapped num den : ℕ) → g +ℤ pos swapped ≡ pos spent → (pos (num * spent) -ℤ (g *ℤ pos den)) <ℤ pos 0 → num * spent + swapped * den < spent * den
less_in_numbers g spent swapped num den split h =
    let e : up g + swapped ≡ spent + down g = omega (arith, ints) in
    let f = ap (λ n. n * den) e in
    omega (arith, ints)

at_most_zero : (z : ℤ) → z <ℤ pos 0 → z ≤ℤ pos 0
at_most_zero z h = omega (arith, ints)

-- a closed walk of weak steps whose ratio is above num/den
pub record IsGreater (n : ℕ) (c : ℕ → ℕ → ℕ) (num den : ℕ) (walk : List ℕ) : Type 0 where
  pub few : length walk ≤ n + 1
  pub closed : IsClosedWalk n (IsWeak c) walk
  pub greater : num * walk_spent c walk + next_sum c walk * den < walk_spent c walk * den

module _ (n : ℕ) (c : ℕ → ℕ → ℕ) (num den : ℕ) (small : (s t : ℕ) → IsSmall (added c num den s t)) (few : n * bound < 2 ^ 121) where
  greater_by : (first : ℕ) (rest : List ℕ) → AreObservations (sums n (added c num den)) first rest → IsSimpleCycle n (first ∷ rest) → 0 < length rest → end_of first rest ≡ first
      → added_along (added c num den) first rest <ℤ pos 0 → IsGreater n c num den (first ∷ rest)
  greater_by first [] within simple some closed negative = absurd (omega arith)
  greater_by first (t ∷ []) within simple some closed negative =
      absurd (not_negative (added c num den first t) (added_itself c num den first t (sym closed)) negative)
    where
      not_negative : (k : ℤ) → k ≡ pos 0 → ¬ ((k +ℤ pos 0) <ℤ pos 0)
      not_negative k e h = absurd (omega (arith, ints))
  greater_by first (t ∷ u ∷ rest) within simple some closed negative =
      let rows = mul-le-mul_right {m = length (t ∷ u ∷ rest)} {n = n} bound (omega (arith, simple.few)) in
      let leads = low_is_weak n c num den small first (t ∷ u ∷ rest) within.begins_within within.goes_within (omega (arith, rows, few)) (at_most_zero (added_along (added c num den) first (t ∷ u ∷ rest)) negative) in
      let round = subst (λ e. LeadsTo n (IsWeak c) first e (t ∷ u ∷ rest)) closed leads in
      let differ : StepsDiffer first (t ∷ u ∷ rest) = (
        simple.distinct 0 1 (omega arith) (omega arith),
        differ_from first t u rest (λ i j l h. simple.distinct (suc i) (suc j) (omega arith) (omega arith)) (λ i h p. simple.distinct 0 (suc i) (omega arith) (omega arith) (sym p)) closed,
      ) in
      let total = along_weak n c num den small first first (t ∷ u ∷ rest) round ∙ total_split c num den first (t ∷ u ∷ rest) differ in
      record {
        few = simple.few;
        closed = (first, (refl, round), omega arith);
        greater = less_in_numbers (gain_from c first (t ∷ u ∷ rest)) (spent_from c first (t ∷ u ∷ rest)) (steps_sum c first (t ∷ u ∷ rest)) num den (gain_split c first (t ∷ u ∷ rest))
            (subst (λ z. z <ℤ pos 0) total negative);
      }

  pub IsGreater-falls : (start : ExactTotal) (walk : List ℕ) → FallsBelowStart (sums n (added c num den)) start walk → IsSimpleCycle n walk → IsGreater n c num den walk
  IsGreater-falls start walk h simple =
      subst (λ (xs : List ℕ). IsGreater n c num den xs) (sym h.walk_is)
      (greater_by h.first h.rest h.is_walk (subst (λ (xs : List ℕ). IsSimpleCycle n xs) h.walk_is simple) h.has_step h.closed (negative_from n (added c num den) start h.first h.rest h.ends_below))

-- ---- the rounds end

-- a number that falls as the ratio rises
abbrev pub left : ℕ → ℕ → ℕ
left num den = 2 ^ 122 - (2 ^ 122 * num) / den

floor_rises : (num den p q : ℕ) → 1 ≤ den → 1 ≤ q → den ≤ 2 ^ 60 → q ≤ 2 ^ 60 → num * q < p * den → (2 ^ 122 * num) / den < (2 ^ 122 * p) / q
floor_rises num den p q hd hq fd fq less =
    let m = (2 ^ 122 * num) / den in
    let at : suc m ≤ (2 ^ 122 * p) / q = le-div (suc m) (2 ^ 122 * p) q hq (reach m ((2 ^ 122 * num) % den) (div-add-mod' (2 ^ 122 * num) den)) in
    omega (arith, at)
  where
    reach : (m r : ℕ) → m * den + r ≡ 2 ^ 122 * num → suc m * q ≤ 2 ^ 122 * p
    reach m r is = go (cases_lt (2 ^ 122 * p) (suc m * q))
      where
        go : (2 ^ 122 * p < suc m * q) ⊎ (suc m * q ≤ 2 ^ 122 * p) → suc m * q ≤ 2 ^ 122 * p
        go (inr l) = l
        go (inl l) =
            let a = ap (λ k. k * q) is in
            let b = mul-le den q (2 ^ 60) (2 ^ 60) fd fq in
            let d = mul-lt-mul_of_pos_right {k = den} l hd in
            absurd (omega (arith, a, b, d, less))

floor_limit : (p q : ℕ) → 1 ≤ q → p ≤ q → (2 ^ 122 * p) / q ≤ 2 ^ 122
floor_limit p q hq l =
    let h = div_below (2 ^ 122 * p) q (2 ^ 122 + 1) hq (omega arith) in
    omega (arith, h)

pub left_falls : (num den p q : ℕ) → 1 ≤ den → 1 ≤ q → den ≤ 2 ^ 60 → q ≤ 2 ^ 60 → p ≤ q → num * q < p * den → left p q < left num den
left_falls num den p q hd hq fd fq l less =
    let rises = floor_rises num den p q hd hq fd fq less in
    let limit = floor_limit p q hq l in
    omega (arith, rises, limit)

ratio_rises : (num den p q spent swapped : ℕ) → 1 ≤ q → num * spent + swapped * den < spent * den → spent * q ≡ p * spent + swapped * q → num * q < p * den
ratio_rises num den p q spent swapped hq greater is =
    let a = mul-lt-mul_of_pos_right {k = q} greater hq in
    let b = ap (λ k. k * den) is in
    lt_of_mul-lt-mul_right spent (omega (arith, a, b))

pub rises : (n : ℕ) (c : ℕ → ℕ → ℕ) (num den p q : ℕ) (walk : List ℕ) → IsGreater n c num den walk → 1 ≤ q → HasPumpRatio c p q walk → num * q < p * den
rises n c num den p q [] greater hq ratio = absurd greater.closed.1
rises n c num den p q (x ∷ rest) greater hq ratio =
    ratio_rises num den p q (spent_from c x rest) (steps_sum c x rest) hq greater.greater
    (ratio_to (gain_from c x rest) (spent_from c x rest) (steps_sum c x rest) p q (gain_split c x rest) ratio)

-- ---- the walk in hand

at_most_den : (p q spent gained : ℕ) → 1 ≤ spent → gained ≤ spent → p * spent ≡ gained * q → p ≤ q
at_most_den p q spent gained some few is = go (cases_lt q p)
  where
    go : (q < p) ⊎ (p ≤ q) → p ≤ q
    go (inr l) = l
    go (inl l) =
        let a = mul-lt-mul_of_pos_right {k = spent} l some in
        let b = mul-le-mul_right {m = gained} {n = spent} q few in
        absurd (omega (arith, a, b, is))

pub some_walk_spent : (n : ℕ) (c : ℕ → ℕ → ℕ) (walk : List ℕ) → ((s : ℕ) → s < n → 0 < c s s) → IsClosedWalk n (IsWeak c) walk → 0 < walk_spent c walk
some_walk_spent n c [] costs w = absurd w.1
some_walk_spent n c (x ∷ rest) costs w = some_spent n c costs x w.0 rest w.1.1 (omega (arith, w.2))

pub IsBest-lowest : (n : ℕ) (c : ℕ → ℕ → ℕ) (walk : List ℕ) (spent swapped gained p q : ℕ) → IsWeakCycle n c walk
    → spent ≡ walk_spent c walk → swapped ≡ next_sum c walk → gained + swapped ≡ spent → 1 ≤ spent → spent ≤ 2 ^ 60
    → IsLowestTerms gained spent (record { num = p; den = q }) → q ≤ spent → IsBest n c p q walk
IsBest-lowest n c walk spent swapped gained p q cycle is_spent is_swapped sum some fits lowest small = record {
  few = cycle.few;
  closed = cycle.closed;
  ratio = (ratio_by_sums n c walk p q spent swapped gained cycle.closed is_spent is_swapped sum).0 (sym lowest.same_number);
  positive = lowest.positive;
  at_most_one = at_most_den p q spent gained some (omega (arith, sum)) lowest.same_number;
  den_fits = omega (arith, small, fits);
  coprime = lowest.coprime;
}

-- the step from the first observation to itself gains nothing
pub IsBest-resting : (n : ℕ) (c : ℕ → ℕ → ℕ) (walk : List ℕ) → 1 ≤ n → walk ≡ 0 ∷ 0 ∷ [] → IsBest n c 0 1 walk
IsBest-resting n c walk some is = rw is (record {
  few = omega arith;
  closed = (0, (refl, (omega arith, omega arith, (omega arith, refl))), omega arith);
  ratio = nothing (c 0 0);
  positive = omega arith;
  at_most_one = omega arith;
  den_fits = omega arith;
  coprime = λ d u v. eq-one_of_dvd-one v;
})
  where
    nothing : (m : ℕ) → ((pos m -ℤ pos m) +ℤ pos 0) *ℤ pos 1 ≡ pos (0 * (m + 0))
    nothing m = omega (arith, ints)
