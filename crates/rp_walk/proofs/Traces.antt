-- How a cycle is found: of two observations at once, or by the way back from the last round, of which the first closed
-- part is cut out.
use Rattle.std.proofs.Common.{◌≡◌, ℕ, zero, suc, ◌+◌, ◌-◌, ◌*◌, ◌<◌, ◌≤◌, arith, ◌⊎◌, inl, inr, ap, sym, ◌∙◌, refl, subst, List, [], ◌∷◌, length, get_or, set, take, drop, replicate, get_or-set_same, get_or-set_other, length-set}
use Rattle.std.proofs.lemmas.List.{get_or-replicate, length-replicate}
use Rattle.std.proofs.lemmas.Bool.{cases_lt}
use Rattle.rp_walk.specs.ExactTotal.{ExactTotal, IsLess, SameTotal}
use Rattle.rp_walk.specs.Walk.{IsSimpleCycle, TotalRule, prefix_total, total_after, KeepsOrder}
use Rattle.rp_walk.specs.LeastTotals.{IsLive, NoneTooWide, FitsAlike, StepsFitAlong, WalkFits}
use Rattle.rp_walk.specs.InnerRounds.{Remembers}
use Rattle.rp_walk.specs.RoundWalk.{CameFrom, IsFirstClosedPart, IsFirstLive, IsRoundWalk}
use Rattle.rp_walk.specs.InnerPairs.{NoPartnerBelow}
use Rattle.rp_walk.specs.Settled.{IsFirstBreakingPair, NoPairBreaks, PairBreaks, FallsBelowStart}
use Rattle.rp_walk.specs.Outcome.{SettlesInCycle}
use Rattle.rp_walk.proofs.Order.{less_not_more, not_more_less, not_less-same}
use Rattle.rp_walk.proofs.Walks.{IsTotal-here}
use Rattle.rp_walk.proofs.Paths.{after-same}
use Rattle.rp_walk.proofs.Rounds.{SameTotal-trans}
use Rattle.rp_walk.proofs.Cycles.{IsFound, IsFound-given, IsSimpleCycle-part, found_within, found_fits, segment, drop-segment, FallsBelowStart-part, total_after-same}
use Rattle.rp_walk.proofs.Unbounded.{no_least_totals}

-- ---- pairs

pub NoPartnerBelow-more : (w : TotalRule) (s n : ℕ) → NoPartnerBelow w s n → ¬ (PairBreaks w s n) → NoPartnerBelow w s (n + 1)
NoPartnerBelow-more w s n h here t after below = by_cases (cases_lt t n)
  where
    by_cases : (t < n) ⊎ (n ≤ t) → ¬ (PairBreaks w s t)
    by_cases (inl b) = h t after b
    by_cases (inr b) =
        let e : n ≡ t = omega arith in
        subst (λ m. ¬ (PairBreaks w s m)) e here

pub IsFirstBreakingPair-found : (w : TotalRule) (s t : ℕ) → s < t → t < w.count → PairBreaks w s t → NoPartnerBelow w s t → ((s' : ℕ) → s' < s → NoPartnerBelow w s' w.count) → IsFirstBreakingPair w s t
IsFirstBreakingPair-found w s t order below breaks first before = record {
  in_order = order;
  within = below;
  breaks = breaks;
  none_before = λ s' t' earlier order' below'. none s' t' order' below' earlier;
}
  where
    none : (s' t' : ℕ) → s' < t' → t' < w.count → (s' < s) ⊎ ((s' ≡ s) × (t' < t)) → ¬ (PairBreaks w s' t')
    none s' t' order' below' (inl b) = before s' b t' order' below'
    none s' t' order' below' (inr (e, b)) =
        subst (λ n. ¬ (PairBreaks w n t')) (sym e) (first t' (subst (λ n. n < t') e order') b)

-- the walk s, t, s from the empty total
pub SettlesInCycle-pair : (w : TotalRule) (keeps : KeepsOrder w) (fits : ExactTotal → Type 0) (start : ExactTotal) (s t : ℕ) → IsFirstBreakingPair w s t → SameTotal start w.empty → SettlesInCycle w fits start (s ∷ t ∷ s ∷ [])
SettlesInCycle-pair w keeps fits start s t pair is_empty = record {
  falls = record {
    first = s;
    rest = t ∷ s ∷ [];
    is_walk = record { begins_within = hs; goes_within = λ k d below. inside k d below };
    walk_is = refl;
    has_step = omega arith;
    closed = refl;
    start_reached = (0, w.empty, IsTotal-here w s hs, sym is_empty);
    ends_below = below;
  };
  simple = record { few = omega (arith, pair.in_order, pair.within); distinct = apart };
  comes = inl (record { s = s; t = t; first_pair = pair; start_empty = is_empty; walk_is = refl });
}
  where
    hs : s < w.count
    hs = omega (arith, pair.in_order, pair.within)

    inside : (k d : ℕ) → k < 2 → get_or (t ∷ s ∷ []) k d < w.count
    inside zero d b = pair.within
    inside (suc zero) d b = hs
    inside (suc (suc k)) d b = absurd (omega arith)

    apart : (i j : ℕ) → i < j → j + 1 < 3 → get_or (s ∷ t ∷ s ∷ []) i 0 ≡ get_or (s ∷ t ∷ s ∷ []) j 0 → ⊥
    apart zero zero order few same = absurd (omega arith)
    apart zero (suc zero) order few same = omega (arith, pair.in_order, same)
    apart zero (suc (suc j)) order few same = absurd (omega arith)
    apart (suc i) zero order few same = absurd (omega arith)
    apart (suc i) (suc j) order few same = absurd (omega arith)

    below : IsLess (total_after w start s (t ∷ s ∷ [])) start
    below =
        let less = pair.breaks 0 w.empty (IsTotal-here w s hs) in
        let ends = total_after-same w keeps start w.empty s (t ∷ s ∷ []) hs (λ k d b. inside k d b) is_empty in
        not_more_less (total_after w start s (t ∷ s ∷ [])) (total_after w w.empty s (t ∷ s ∷ [])) start
        (not_less-same (total_after w w.empty s (t ∷ s ∷ [])) (total_after w start s (t ∷ s ∷ [])) (sym ends))
        (less_not_more (total_after w w.empty s (t ∷ s ∷ [])) w.empty start less (not_less-same start w.empty is_empty))

-- ---- the way back

-- from a round on, the list holds a walk that the rounds found
pub record IsTraced (w : TotalRule) (round : ℕ) (walk : List ℕ) : Type 0 where
  pub len : length walk ≡ w.count + 1
  pub round_in : round ≤ w.count
  pub ends : IsFirstLive w w.count (get_or walk w.count 0)
  pub within : get_or walk round 0 < w.count
  pub live : IsLive w round (get_or walk round 0)
  pub came : (m : ℕ) → round ≤ m → m < w.count → CameFrom w m (get_or walk (suc m) 0) (get_or walk m 0)

pub IsTraced-none : (w : TotalRule) (end : ℕ) → IsFirstLive w w.count end → IsTraced w w.count (replicate (w.count + 1) end)
IsTraced-none w end first =
    let e : get_or (replicate (w.count + 1) end) w.count 0 ≡ end = get_or-replicate (w.count + 1) w.count end 0 (omega arith) in
    let ends = subst (λ n. IsFirstLive w w.count n) (sym e) first in
    record {
      len = length-replicate (w.count + 1) end;
      round_in = omega arith;
      ends = ends;
      within = ends.within;
      live = ends.live;
      came = λ m from below. absurd (omega arith);
    }

pub IsTraced-start : (w : TotalRule) (walk : List ℕ) (n m end : ℕ) → n ≡ w.count → m ≡ w.count → walk ≡ replicate (m + 1) end → IsFirstLive w w.count end → IsTraced w n walk
IsTraced-start w walk n m end is_n is_m is_walk first =
    let whole = is_walk ∙ ap (λ k. replicate (k + 1) end) is_m in
    subst (λ k. IsTraced w k walk) (sym is_n)
    (subst (λ (xs : List ℕ). IsTraced w w.count xs) (sym whole) (IsTraced-none w end first))

pub IsTraced-back : (w : TotalRule) (history walk : List ℕ) (round from to v : ℕ) → IsTraced w round walk → 0 < round → from ≡ round - 1 → Remembers w w.count history → to ≡ get_or walk (from + 1) 0 → v ≡ get_or history (from * w.count + to) 0 → IsTraced w from (set walk from v)
IsTraced-back w history walk round from to v h some is_from remembers is_to is_v =
    let n : round ≡ suc from = omega arith in
    let next : from + 1 ≡ suc from = omega arith in
    let to_is : get_or walk (suc from) 0 ≡ to = ap (λ m. get_or walk m 0) (sym next) ∙ sym is_to in
    let to_in : to < w.count = subst (λ m. m < w.count) to_is (subst (λ m. get_or walk m 0 < w.count) n h.within) in
    let live_to : IsLive w (suc from) to = subst (λ m. IsLive w (suc from) m) to_is (subst (λ m. IsLive w m (get_or walk m 0)) n h.live) in
    let from_in : from < w.count = omega (arith, h.round_in) in
    let came = subst (λ m. CameFrom w from to m) (sym is_v) (remembers from to from_in to_in live_to) in
    let inside : from < length walk = omega (arith, h.len) in
    let here : get_or (set walk from v) from 0 ≡ v = get_or-set_same walk from v 0 inside in
    let end_same : get_or (set walk from v) w.count 0 ≡ get_or walk w.count 0 = get_or-set_other walk from w.count v 0 (λ e. absurd (omega arith)) in
    let to_same : get_or (set walk from v) (suc from) 0 ≡ to = get_or-set_other walk from (suc from) v 0 (λ e. absurd (omega arith)) ∙ to_is in
    record {
      len = length-set walk from v ∙ h.len;
      round_in = omega arith;
      ends = subst (λ m. IsFirstLive w w.count m) (sym end_same) h.ends;
      within = subst (λ m. m < w.count) (sym here) came.within;
      live = subst (λ m. IsLive w from m) (sym here) came.live;
      came = λ m lo hi. by_cases m lo hi (cases_lt from m)
          (subst (λ k. CameFrom w from (get_or (set walk from v) (suc from) 0) k) (sym here) (subst (λ k. CameFrom w from k v) (sym to_same) came));
    }
  where
    by_cases : (m : ℕ) → from ≤ m → m < w.count → (from < m) ⊎ (m ≤ from) → CameFrom w from (get_or (set walk from v) (suc from) 0) (get_or (set walk from v) from 0) → CameFrom w m (get_or (set walk from v) (suc m) 0) (get_or (set walk from v) m 0)
    by_cases m lo hi (inl b) came =
        let a = get_or-set_other walk from (suc m) v 0 (λ e. absurd (omega arith)) in
        let c = get_or-set_other walk from m v 0 (λ e. absurd (omega arith)) in
        subst (λ k. CameFrom w m (get_or (set walk from v) (suc m) 0) k) (sym c)
        (subst (λ k. CameFrom w m k (get_or walk m 0)) (sym a) (h.came m (omega arith) hi))
    by_cases m lo hi (inr b) came =
        let e : from ≡ m = omega arith in
        subst (λ k. CameFrom w k (get_or (set walk from v) (suc k) 0) (get_or (set walk from v) k 0)) e came

-- ---- the total along the way

pub step_fits : (w : TotalRule) (keeps : KeepsOrder w) (fits : ExactTotal → Type 0) (alike : FitsAlike fits) (p : ℕ → ℕ) (i j : ℕ) (x : ExactTotal) → j ≡ suc i → SameTotal (prefix_total w p i) x → p i < w.count → p j < w.count → ¬ (¬ (fits (w.after (prefix_total w p i) (p i) (p (suc i))))) → ¬ (fits (w.after x (p i) (p j))) → ⊥
step_fits w keeps fits alike p i j x e same hi hj fit nofit =
    let steps = after-same w keeps (prefix_total w p i) x (p i) (p j) hi hj same in
    let fit_j = subst (λ n. ¬ (¬ (fits (w.after (prefix_total w p i) (p i) (p n))))) (sym e) fit in
    fit_j (λ q. nofit (alike (w.after (prefix_total w p i) (p i) (p j)) (w.after x (p i) (p j)) steps q))

pub prefix_more : (w : TotalRule) (keeps : KeepsOrder w) (p : ℕ → ℕ) (i j : ℕ) (x y : ExactTotal) → j ≡ suc i → SameTotal (prefix_total w p i) x → p i < w.count → p j < w.count → SameTotal y (w.after x (p i) (p j)) → SameTotal (prefix_total w p j) y
prefix_more w keeps p i j x y e same hi hj is_y =
    let steps = after-same w keeps (prefix_total w p i) x (p i) (p j) hi hj same in
    let all = SameTotal-trans (w.after (prefix_total w p i) (p i) (p j)) (w.after x (p i) (p j)) y steps (sym is_y) in
    let at_suc = subst (λ n. SameTotal (w.after (prefix_total w p i) (p i) (p n)) y) e all in
    subst (λ n. SameTotal (prefix_total w p n) y) (sym e) at_suc

-- ---- the cycle that is cut

-- each step of a part of a found walk fits, from the same number at its beginning
StepsFitAlong-part : (w : TotalRule) (keeps : KeepsOrder w) (fits : ExactTotal → Type 0) (alike : FitsAlike fits) (p : ℕ → ℕ) → IsFound w w.count p → NoneTooWide w fits → (a d : ℕ) (x : ExactTotal) → a + d ≤ w.count → SameTotal (prefix_total w p a) x → StepsFitAlong w fits x (p a) (segment p a d)
StepsFitAlong-part w keeps fits alike p found none a zero x few same = tt
StepsFitAlong-part w keeps fits alike p found none a (suc d) x few same =
    let here = found_within w w.count p found a (omega arith) in
    let there = found_within w w.count p found (suc a) (omega arith) in
    let steps = after-same w keeps (prefix_total w p a) x (p a) (p (suc a)) here there same in
    let fit = found_fits w fits w.count p found (omega arith) none a (omega arith) in (
      (λ nofit. fit (λ q. nofit (alike (prefix_total w p (suc a)) (w.after x (p a) (p (suc a))) steps q))),
      StepsFitAlong-part w keeps fits alike p found none (suc a) d (w.after x (p a) (p (suc a))) (omega arith) steps,
    )

pub SettlesInCycle-cut : (w : TotalRule) (keeps : KeepsOrder w) (fits : ExactTotal → Type 0) (alike : FitsAlike fits) (start : ExactTotal) (walk steps : List ℕ) (a b : ℕ) → IsRoundWalk w walk → IsFirstClosedPart walk a b → SameTotal (prefix_total w (λ m. get_or walk m 0) a) start → steps ≡ take (b + 1 - a) (drop a walk) → NoPairBreaks w → NoneTooWide w fits → SettlesInCycle w fits start steps
SettlesInCycle-cut w keeps fits alike start walk steps a b given first is_start is_steps no_pair none =
    let found = IsFound-given w walk given in
    let len = given.one_more in
    let order = first.in_order in
    let inside = first.in_walk in
    let same = first.closed in
    let d : ℕ = b - a in
    let e : b ≡ a + d = omega arith in
    let n : b + 1 - a ≡ suc d = omega arith in
    let part = FallsBelowStart-part w keeps w.count (λ m. get_or walk m 0) a d start found (omega arith) (omega arith) (same ∙ ap (λ m. get_or walk m 0) e) is_start in
    let list : steps ≡ get_or walk a 0 ∷ segment (λ m. get_or walk m 0) a d =
    is_steps ∙ ap (λ m. take m (drop a walk)) n ∙ drop-segment walk a d (omega arith) in
    record {
      falls = subst (λ (xs : List ℕ). FallsBelowStart w start xs) (sym list) part;
      simple = subst (λ (xs : List ℕ). IsSimpleCycle w.count xs) (sym list)
          (IsSimpleCycle-part w.count (λ m. get_or walk m 0) a d (omega arith) (λ i j i_first below. first.first i j i_first (omega arith)));
      comes = inr (record {
        no_pair = no_pair;
        none_too_wide = none;
        no_least = no_least_totals w keeps (get_or walk w.count 0) given.ends.within given.ends.live;
        steps_fit = subst (λ (xs : List ℕ). WalkFits w fits start xs) (sym list)
            (StepsFitAlong-part w keeps fits alike (λ m. get_or walk m 0) found none a d start (omega arith) is_start);
        first_part = record { walk = walk; is_given = given; a = a; b = b; first_part = first; cycle_is = is_steps; start_is = is_start };
      });
    }
