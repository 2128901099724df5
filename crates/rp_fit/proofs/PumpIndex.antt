-- Values that bound the steps leave no closed walk a greater ratio, and a ratio above 0 is a violation. The bounds are
-- added along the walk: the values cancel, and what is left is the walk's total at the ratio. A walk of weak steps
-- gains something just where one of its steps is strict.
use borrow.Author.Differences.{up, down}
use Rattle.std.proofs.Common.{◌+◌, ◌*◌, ap, subst, ◌≡◌, ◌≢◌, ℕ, zero, suc, ◌<◌, ◌≤◌, ◌↔◌, arith, refl, sym, List, [], ◌∷◌, length, ◌⊎◌, inl, inr}
use Rattle.std.proofs.lemmas.Int.{ints}
use Rattle.std.proofs.lemmas.Bool.{cases_eq, cases_lt}
use Rattle.std.proofs.Math.Nat.{mul-lt-mul_of_pos_right, lt_of_mul-lt-mul_right, one-le-mul}
use Rattle.std.specs.Prelude.{ℤ, pos, ◌+ℤ◌, ◌-ℤ◌, ◌*ℤ◌, ◌≤ℤ◌}
use Rattle.rp_evidence.specs.Efficiency.{FailsGarp}
use Rattle.rp_evidence.specs.Preference.{IsStrict, IsWeak}
use Rattle.rp_evidence.specs.Walk.{HasStep, HasStepFrom, IsClosedWalk, LeadsTo}
use Rattle.rp_evidence.proofs.Walks.{starts_below}
use Rattle.rp_fit.specs.MoneyPump.{HasPumpRatio, IsPumpIndex, PumpsAtMost, gain, gain_from, spent_from}
use Rattle.rp_fit.specs.PumpTotals.{excess}
use Rattle.rp_fit.specs.PumpEvidence.{PumpHolds, value_at}
use Rattle.rp_fit.specs.WalkSums.{steps_sum}
use Rattle.rp_fit.specs.declared.pump.PumpPart.{PumpPart}

-- ---- gains as differences of two sums

one_gain : (g : ℤ) (a b p q : ℕ) → g +ℤ pos p ≡ pos q → ((pos a -ℤ pos b) +ℤ g) +ℤ pos (b + p) ≡ pos (a + q)
one_gain g a b p q h = omega (arith, ints)

pub gain_split : (c : ℕ → ℕ → ℕ) (s : ℕ) (rest : List ℕ) → gain_from c s rest +ℤ pos (steps_sum c s rest) ≡ pos (spent_from c s rest)
gain_split c s [] = refl
gain_split c s (t ∷ rest) =
    one_gain (gain_from c t rest) (c s s) (c s t) (steps_sum c t rest) (spent_from c t rest) (gain_split c t rest)

-- the ratio in natural numbers: what was spent, and what the next bundles cost
pub ratio_to : (g : ℤ) (spent swapped num den : ℕ) → g +ℤ pos swapped ≡ pos spent → g *ℤ pos den ≡ pos (num * spent) → spent * den ≡ num * spent + swapped * den
ratio_to g spent swapped num den split h =
    let e : up g + swapped ≡ spent + down g = omega (arith, ints) in
    let f = ap (λ n. n * den) e in
    omega (arith, ints)

pub ratio_from : (g : ℤ) (spent swapped num den : ℕ) → g +ℤ pos swapped ≡ pos spent → spent * den ≡ num * spent + swapped * den → g *ℤ pos den ≡ pos (num * spent)
ratio_from g spent swapped num den split h =
    let e : up g + swapped ≡ spent + down g = omega (arith, ints) in
    let f = ap (λ n. n * den) e in
    omega (arith, ints)

pub at_most_to : (g : ℤ) (spent swapped num den : ℕ) → g +ℤ pos swapped ≡ pos spent → (g *ℤ pos den) ≤ℤ pos (num * spent) → spent * den ≤ num * spent + swapped * den
at_most_to g spent swapped num den split h =
    let e : up g + swapped ≡ spent + down g = omega (arith, ints) in
    let f = ap (λ n. n * den) e in
    omega (arith, ints)

-- ---- weak steps

abbrev pub Weak : (ℕ → ℕ → ℕ) → ℕ → ℕ → Type 0
Weak c = IsWeak c

pub swapped_at_most : (n : ℕ) (c : ℕ → ℕ → ℕ) (s t : ℕ) (rest : List ℕ) → LeadsTo n (Weak c) s t rest → steps_sum c s rest ≤ spent_from c s rest
swapped_at_most n c s t [] h = omega arith
swapped_at_most n c s t (x ∷ rest) h =
    let more = swapped_at_most n c x t rest h.2 in
    omega (arith, more, h.1)

pub some_spent : (n : ℕ) (c : ℕ → ℕ → ℕ) → ((s : ℕ) → s < n → 0 < c s s) → (s t : ℕ) (rest : List ℕ) → LeadsTo n (Weak c) s t rest → 0 < length rest → 0 < spent_from c s rest
some_spent n c costs s t [] h some = absurd (omega arith)
some_spent n c costs s t (x ∷ rest) h some =
    let here = costs s h.0 in
    omega (arith, here)

-- ---- values that bound the steps

parts_of_sum : (a b : ℤ) → up (a +ℤ b) + (down a + down b) ≡ down (a +ℤ b) + (up a + up b)
parts_of_sum a b = omega (arith, ints)

joined : (us ux ut g h : ℤ) (num den spent more : ℕ) → ux ≤ℤ (us +ℤ (pos (num * spent) -ℤ (g *ℤ pos den)))
    → ut ≤ℤ (ux +ℤ (pos (num * more) -ℤ (h *ℤ pos den)))
    → ut ≤ℤ (us +ℤ (pos (num * (spent + more)) -ℤ ((g +ℤ h) *ℤ pos den)))
joined us ux ut g h num den spent more first then =
    let e = ap (λ n. n * den) (parts_of_sum g h) in
    omega (arith, ints)

to_itself : (u : ℤ) (num den spent : ℕ) → u ≤ℤ (u +ℤ (pos (num * spent) -ℤ ((pos spent -ℤ pos spent) *ℤ pos den)))
to_itself u num den spent =
    subst (λ z. u ≤ℤ (u +ℤ (pos (num * spent) -ℤ (z *ℤ pos den)))) (sym (nothing spent)) (kept u (num * spent) den)
  where
    nothing : (m : ℕ) → pos m -ℤ pos m ≡ pos 0
    nothing m = omega (arith, ints)

    kept : (u : ℤ) (m den : ℕ) → u ≤ℤ (u +ℤ (pos m -ℤ (pos 0 *ℤ pos den)))
    kept u m den = omega (arith, ints)

nothing_more : (u : ℤ) (num den : ℕ) → u ≤ℤ (u +ℤ (pos (num * 0) -ℤ (pos 0 *ℤ pos den)))
nothing_more u num den = omega (arith, ints)

module _ (n : ℕ) (c : ℕ → ℕ → ℕ) (num den : ℕ) (value : ℕ → ℤ) (bounds : (s t : ℕ) → s < n → t < n → s ≢ t → IsWeak c s t → value t ≤ℤ (value s +ℤ excess c num den s t)) where
  one_bound : (s t : ℕ) → s < n → t < n → IsWeak c s t → value t ≤ℤ (value s +ℤ excess c num den s t)
  one_bound s t hs ht weak = go (cases_eq s t)
    where
      go : (s ≡ t) ⊎ (¬ (s ≡ t)) → value t ≤ℤ (value s +ℤ excess c num den s t)
      go (inl e) = subst (λ x. value x ≤ℤ (value s +ℤ excess c num den s x)) e (to_itself (value s) num den (c s s))
      go (inr d) = bounds s t hs ht d weak

  bound_along : (s t : ℕ) (rest : List ℕ) → LeadsTo n (Weak c) s t rest → value t ≤ℤ (value s +ℤ (pos (num * spent_from c s rest) -ℤ (gain_from c s rest *ℤ pos den)))
  bound_along s t [] h = subst (λ x. value x ≤ℤ (value s +ℤ (pos (num * 0) -ℤ (pos 0 *ℤ pos den)))) h.1 (nothing_more (value s) num den)
  bound_along s t (x ∷ rest) h =
      joined (value s) (value x) (value t) (gain c s x) (gain_from c x rest) num den (c s s) (spent_from c x rest)
      (one_bound s x h.0 (starts_below n (Weak c) x t rest h.2) h.1) (bound_along x t rest h.2)

  pub none_greater : (walk : List ℕ) → IsClosedWalk n (IsWeak c) walk → PumpsAtMost c num den walk
  none_greater [] w = absurd w.1
  none_greater (x ∷ rest) w =
      let leads = subst (λ s. LeadsTo n (Weak c) x s rest) (sym w.1.0) w.1.1 in
      cut (value x) (gain_from c x rest) (num * spent_from c x rest) (bound_along x x rest leads)
    where
      cut : (u g : ℤ) (m : ℕ) → u ≤ℤ (u +ℤ (pos m -ℤ (g *ℤ pos den))) → (g *ℤ pos den) ≤ℤ pos m
      cut u g m h = omega (arith, ints)

pub index_of : (n : ℕ) (c : ℕ → ℕ → ℕ) (part : PumpPart) → PumpHolds n c part → IsPumpIndex n c part.num part.den
index_of n c part h = record {
  positive = h.positive;
  reached = (part.cycle, h.cycle.closed, h.ratio);
  greatest = none_greater n c part.num part.den (value_at part.values) (λ s t hs ht d weak. h.bounds s hs t ht d weak);
}

-- ---- above 0 exactly where the axiom fails

strict_step : (n : ℕ) (c : ℕ → ℕ → ℕ) (s t : ℕ) (rest : List ℕ) → LeadsTo n (Weak c) s t rest → steps_sum c s rest < spent_from c s rest → HasStepFrom (IsStrict c) s rest
strict_step n c s t [] h less = absurd (omega arith)
strict_step n c s t (x ∷ rest) h less = go (strict_step n c x t rest h.2) (cases_lt (c s x) (c s s))
  where
    go : (steps_sum c x rest < spent_from c x rest → HasStepFrom (IsStrict c) x rest) → (c s x < c s s) ⊎ (c s s ≤ c s x) → HasStepFrom (IsStrict c) s (x ∷ rest)
    go further (inl l) = inl (omega arith)
    go further (inr l) = inr (further (omega (arith, less, l)))

less_swapped : (n : ℕ) (c : ℕ → ℕ → ℕ) (s t : ℕ) (rest : List ℕ) → LeadsTo n (Weak c) s t rest → HasStepFrom (IsStrict c) s rest → steps_sum c s rest < spent_from c s rest
less_swapped n c s t [] h strict = absurd strict
less_swapped n c s t (x ∷ rest) h (inl l) =
    let more = swapped_at_most n c x t rest h.2 in
    omega (arith, more, l)
less_swapped n c s t (x ∷ rest) h (inr strict) =
    let more = less_swapped n c x t rest h.2 strict in
    omega (arith, more, h.1)

some_num : (num spent swapped den : ℕ) → 1 ≤ den → swapped < spent → spent * den ≤ num * spent + swapped * den → 0 < num
some_num zero spent swapped den positive less h =
    let more = mul-lt-mul_of_pos_right {k = den} less positive in
    absurd (omega (arith, more, h))
some_num (suc num) spent swapped den positive less h = omega arith

some_gain : (num spent swapped den : ℕ) → 0 < num → 0 < spent → spent * den ≡ num * spent + swapped * den → swapped < spent
some_gain num spent swapped den positive some h =
    let product : 1 ≤ num * spent = one-le-mul positive some in
    lt_of_mul-lt-mul_right den (omega (arith, product, h))

pub pumps_where_garp_fails : (n : ℕ) (c : ℕ → ℕ → ℕ) (num den : ℕ) → ((s : ℕ) → s < n → 0 < c s s) → IsPumpIndex n c num den → (0 < num) ↔ FailsGarp n c
pumps_where_garp_fails n c num den costs index =
    (λ some. fails index.reached.0 some index.reached.1 index.reached.2, λ v. above v.0 v.1.0 v.1.1 (index.greatest v.0 v.1.0))
  where
    fails : (walk : List ℕ) → 0 < num → IsClosedWalk n (IsWeak c) walk → HasPumpRatio c num den walk → FailsGarp n c
    fails [] some w ratio = absurd w.1
    fails (x ∷ rest) some w ratio =
        let spent = some_spent n c costs x w.0 rest w.1.1 (omega (arith, w.2)) in
        let r = ratio_to (gain_from c x rest) (spent_from c x rest) (steps_sum c x rest) num den (gain_split c x rest) ratio in
        (x ∷ rest, (w, strict_step n c x w.0 rest w.1.1 (some_gain num (spent_from c x rest) (steps_sum c x rest) den some spent r)))

    above : (walk : List ℕ) → (w : IsClosedWalk n (IsWeak c) walk) → HasStep (IsStrict c) walk → PumpsAtMost c num den walk → 0 < num
    above [] w strict most = absurd w.1
    above (x ∷ rest) w strict most =
        some_num num (spent_from c x rest) (steps_sum c x rest) den index.positive (less_swapped n c x w.0 rest w.1.1 strict)
        (at_most_to (gain_from c x rest) (spent_from c x rest) (steps_sum c x rest) num den (gain_split c x rest) most)

-- ---- what a step leaves, as a difference of two natural numbers

pub excess_split : (num den spent swapped left right : ℕ) → left ≡ num * spent + den * swapped → right ≡ den * spent → pos left -ℤ pos right ≡ pos (num * spent) -ℤ ((pos spent -ℤ pos swapped) *ℤ pos den)
excess_split num den spent swapped left right e f =
    let d : up (pos spent -ℤ pos swapped) + swapped ≡ spent + down (pos spent -ℤ pos swapped) = omega (arith, ints) in
    let k = ap (λ n. n * den) d in
    omega (arith, ints)
