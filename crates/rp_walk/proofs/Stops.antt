-- Where the rounds stop, and why rightly: the first step that does not fit is the first triple that is too wide; a
-- round that makes nothing less has the least totals over all walks, and no later one would go on.
use Rattle.std.proofs.Common.{◌≡◌, ℕ, zero, suc, ◌-◌, ◌<◌, ◌≤◌, arith, ◌⊎◌, inl, inr, sym, subst}
use Rattle.std.proofs.lemmas.Bool.{cases_lt}
use Rattle.rp_walk.specs.ExactTotal.{ExactTotal, IsLess, SameTotal}
use Rattle.rp_walk.specs.Walk.{TotalRule, IsTotal, KeepsOrder}
use Rattle.rp_walk.specs.LeastTotals.{IsLeast, IsLive, IsTooWide, NoneTooWide, TripleComesBefore, IsFirstTooWide, FitsAlike}
use Rattle.rp_walk.specs.InnerRounds.{AreRoundTotals, IsNext, TriedFits}
use Rattle.rp_walk.specs.RoundWalk.{CameFrom, Carries}
use Rattle.rp_walk.proofs.Order.{not_more_trans, not_less-same}
use Rattle.rp_walk.proofs.Walks.{IsTotal-further, IsTotal-parts, IsTotal-within}
use Rattle.rp_walk.proofs.Paths.{after-not_less, after-same, same_least, IsLeastWithin-same}
use Rattle.rp_walk.proofs.Rounds.{SameTotal-trans, next_least}

-- numbers that are the same are in the same order
not_less-of_same : (x y z : ExactTotal) → SameTotal x z → SameTotal y z → ¬ (IsLess x y)
not_less-of_same x y z hx hy = not_less-same x y (SameTotal-trans x z y hx (sym hy))

-- an observation for which the round found no lesser total is not gone on from
pub idle_not_live : (w : TotalRule) (k : ℕ) (f : ℕ → ExactTotal) (from : ℕ → ℕ) (t : ℕ) → AreRoundTotals w k f from → t < w.count → w.count ≤ from t → ¬ (IsLive w k t)
idle_not_live w k f from t round ht idle (inl e) = absurd (omega (arith, e, (round.idle t ht idle).0))
idle_not_live w k f from t round ht idle (inr (x, y, hx, hy, less)) =
    not_less-of_same x y (f t)
    (same_least w k t x (f t) hx (round.least t ht))
    (same_least w (k - 1) t y (f t) hy (round.idle t ht idle).1)
    less

-- where the step fits if it can matter, the triple is not too wide
pub not_wide-fits : (w : TotalRule) (keeps : KeepsOrder w) (fits : ExactTotal → Type 0) (alike : FitsAlike fits) (k : ℕ) (f : ℕ → ExactTotal) (from : ℕ → ℕ) (t s : ℕ) → AreRoundTotals w k f from → (t < w.count → s < w.count → from t < w.count → ¬ (¬ (fits (w.after (f t) t s)))) → ¬ (IsTooWide w fits k t s)
not_wide-fits w keeps fits alike k f from t s round fit wide =
    by_cases (cases_lt (from t) w.count)
  where
    by_cases : (from t < w.count) ⊎ (w.count ≤ from t) → ⊥
    by_cases (inl h) =
        let x = wide.not_fit in
        let same = same_least w k t (f t) x.0 (round.least t wide.from_within) x.1 in
        let steps = after-same w keeps (f t) x.0 t s wide.from_within wide.to_within same in
        fit wide.from_within wide.to_within h (λ p. x.2 (alike (w.after (f t) t s) (w.after x.0 t s) steps p))
    by_cases (inr h) = idle_not_live w k f from t round wide.from_within h wide.live

-- where it does not, the triple is
pub IsTooWide-not_fit : (w : TotalRule) (fits : ExactTotal → Type 0) (k : ℕ) (f : ℕ → ExactTotal) (from : ℕ → ℕ) (t s : ℕ) → AreRoundTotals w k f from → k < w.count → t < w.count → s < w.count → from t < w.count → ¬ (fits (w.after (f t) t s)) → IsTooWide w fits k t s
IsTooWide-not_fit w fits k f from t s round hk ht hs h nofit = record {
  round_within = hk;
  from_within = ht;
  to_within = hs;
  live = round.live t ht h;
  not_fit = (f t, round.least t ht, nofit);
}

-- no triple of the rounds below k is too wide
abbrev pub NoneBelow : TotalRule → (ExactTotal → Type 0) → ℕ → Type 0
NoneBelow w fits k = (k' t s : ℕ) → k' < k → ¬ (IsTooWide w fits k' t s)

pub NoneBelow-next : (w : TotalRule) (keeps : KeepsOrder w) (fits : ExactTotal → Type 0) (alike : FitsAlike fits) (k : ℕ) (f : ℕ → ExactTotal) (from : ℕ → ℕ) → AreRoundTotals w k f from → TriedFits w fits f from w.count → NoneBelow w fits k → NoneBelow w fits (suc k)
NoneBelow-next w keeps fits alike k f from round fit none k' t s below =
    by_cases (cases_lt k' k)
  where
    by_cases : (k' < k) ⊎ (k ≤ k') → ¬ (IsTooWide w fits k' t s)
    by_cases (inl h) = none k' t s h
    by_cases (inr h) =
        let e : k ≡ k' = omega arith in
        subst (λ n. ¬ (IsTooWide w fits n t s)) e
        (not_wide-fits w keeps fits alike k f from t s round (λ ht hs p. fit t s ht hs p))

-- the first step that does not fit, in the order of the rounds and then of t and s
pub IsFirstTooWide-found : (w : TotalRule) (keeps : KeepsOrder w) (fits : ExactTotal → Type 0) (alike : FitsAlike fits) (k : ℕ) (f : ℕ → ExactTotal) (from : ℕ → ℕ) (t s : ℕ) → AreRoundTotals w k f from → NoneBelow w fits k → k < w.count → t < w.count → s < w.count → from t < w.count → TriedFits w fits f from t → ((s' : ℕ) → s' < s → ¬ (¬ (fits (w.after (f t) t s')))) → ¬ (fits (w.after (f t) t s)) → IsFirstTooWide w fits k t s
IsFirstTooWide-found w keeps fits alike k f from t s round none hk ht hs h fit_t fit_s nofit = record {
  too_wide = IsTooWide-not_fit w fits k f from t s round hk ht hs h nofit;
  none_before = before;
}
  where
    at_round : (t' s' : ℕ) → (t' < t) ⊎ ((t' ≡ t) × (s' < s)) → ¬ (IsTooWide w fits k t' s')
    at_round t' s' (inl b) =
        not_wide-fits w keeps fits alike k f from t' s' round (λ ht' hs' p. fit_t t' s' b hs' p)
    at_round t' s' (inr (e, b)) =
        subst (λ n. ¬ (IsTooWide w fits k n s')) (sym e)
        (not_wide-fits w keeps fits alike k f from t s' round (λ ht' hs' p. fit_s s' b))

    before : (k' t' s' : ℕ) → TripleComesBefore k' t' s' k t s → ¬ (IsTooWide w fits k' t' s')
    before k' t' s' (inl b) = none k' t' s' b
    before k' t' s' (inr (e, b)) = subst (λ n. ¬ (IsTooWide w fits n t' s')) (sym e) (at_round t' s' b)

-- ---- a round after which nothing improves

stable_lowest : (w : TotalRule) (keeps : KeepsOrder w) (k : ℕ) (f g : ℕ → ExactTotal) (from came : ℕ → ℕ) → AreRoundTotals w k f from → IsNext w f from w.count g came → ((s : ℕ) → s < w.count → w.count ≤ came s) → (j s : ℕ) (y : ExactTotal) → IsTotal w j s y → ¬ (IsLess y (f s))
stable_lowest w keeps k f g from came round next still zero s y reached =
    (round.least s (IsTotal-within w zero s y reached)).lowest 0 y (omega arith) reached
stable_lowest w keeps k f g from came round next still (suc j) s y reached =
    let parts = IsTotal-parts w (suc j) s y reached in
    let t = parts.0 in
    let hs = parts.2 in
    let ht = IsTotal-within w j t parts.1 parts.3 in
    let up = after-not_less w keeps parts.1 (f t) t s ht hs (stable_lowest w keeps k f g from came round next still j t parts.1 parts.3) in
    let r = (round.least t ht).reached in
    let longer = IsTotal-further w r.0 t s r.1 r.3 hs in
    let not_g = (next_least w keeps k f g from came s round next hs).lowest (suc r.0) (w.after r.1 t s) (omega (arith, r.2)) longer in
    let not_f = subst (λ (x : ExactTotal). ¬ (IsLess (w.after r.1 t s) x)) (next.kept s hs (still s hs)) not_g in
    let same = after-same w keeps r.1 (f t) t s ht hs r.4 in
    let not_here : ¬ (IsLess (w.after (f t) t s) (f s)) = not_more_trans (f s) (w.after r.1 t s) (w.after (f t) t s) not_f (not_less-same (w.after (f t) t s) (w.after r.1 t s) (sym same)) in
    let all = not_more_trans (f s) (w.after (f t) t s) (w.after parts.1 t s) not_here up in
    subst (λ (x : ExactTotal). ¬ (IsLess x (f s))) parts.4 all

-- its totals are the least over the walks of any length
pub IsLeast-stable : (w : TotalRule) (keeps : KeepsOrder w) (k : ℕ) (f g : ℕ → ExactTotal) (from came : ℕ → ℕ) → AreRoundTotals w k f from → IsNext w f from w.count g came → ((s : ℕ) → s < w.count → w.count ≤ came s) → (s : ℕ) → s < w.count → IsLeast w s (g s)
IsLeast-stable w keeps k f g from came round next still s hs =
    let r = (round.least s hs).reached in
    let e = next.kept s hs (still s hs) in
    record {
      reached = (r.0, r.1, r.3, subst (λ (x : ExactTotal). SameTotal r.1 x) (sym e) r.4);
      lowest = λ j y reached. subst (λ (x : ExactTotal). ¬ (IsLess y x)) (sym e) (stable_lowest w keeps k f g from came round next still j s y reached);
    }

-- and no later round is gone on from
later_not_live : (w : TotalRule) (keeps : KeepsOrder w) (k : ℕ) (f g : ℕ → ExactTotal) (from came : ℕ → ℕ) → AreRoundTotals w k f from → IsNext w f from w.count g came → ((s : ℕ) → s < w.count → w.count ≤ came s) → (k' t : ℕ) → k < k' → t < w.count → ¬ (IsLive w k' t)
later_not_live w keeps k f g from came round next still k' t later ht (inl e) = absurd (omega arith)
later_not_live w keeps k f g from came round next still k' t later ht (inr (x, y, hx, hy, less)) =
    let r = hx.reached in
    let not_r = stable_lowest w keeps k f g from came round next still r.0 t r.1 r.3 in
    let not_x = not_more_trans (f t) r.1 x not_r (not_less-same x r.1 (sym r.4)) in
    let q = (round.least t ht).reached in
    let not_q = hy.lowest q.0 q.1 (omega (arith, q.2)) q.3 in
    let not_f = not_more_trans y q.1 (f t) not_q (not_less-same (f t) q.1 (sym q.4)) in
    not_more_trans y (f t) x not_f not_x less

pub NoneTooWide-stable : (w : TotalRule) (keeps : KeepsOrder w) (fits : ExactTotal → Type 0) (k : ℕ) (f g : ℕ → ExactTotal) (from came : ℕ → ℕ) → AreRoundTotals w k f from → IsNext w f from w.count g came → ((s : ℕ) → s < w.count → w.count ≤ came s) → NoneBelow w fits (suc k) → NoneTooWide w fits
NoneTooWide-stable w keeps fits k f g from came round next still none k' t s wide =
    by_cases (cases_lt k k')
  where
    by_cases : (k < k') ⊎ (k' ≤ k) → ⊥
    by_cases (inl h) = later_not_live w keeps k f g from came round next still k' t h wide.from_within wide.live
    by_cases (inr h) = none k' t s (omega arith) wide

-- past the last round no triple stands
pub NoneTooWide-all : (w : TotalRule) (fits : ExactTotal → Type 0) (k : ℕ) → w.count ≤ k → NoneBelow w fits k → NoneTooWide w fits
NoneTooWide-all w fits k all none k' t s wide = none k' t s (omega (arith, wide.round_within)) wide

-- ---- where an improved total comes from

pub CameFrom-next : (w : TotalRule) (keeps : KeepsOrder w) (k : ℕ) (f g : ℕ → ExactTotal) (from came : ℕ → ℕ) (s : ℕ) → AreRoundTotals w k f from → IsNext w f from w.count g came → s < w.count → came s < w.count → CameFrom w k s (came s)
CameFrom-next w keeps k f g from came s round next hs h = record {
  within = h;
  live = round.live (came s) h (next.live_from s hs h);
  carries = λ x hx.
      let same_x = same_least w k (came s) (f (came s)) x (round.least (came s) h) hx in
      let steps = after-same w keeps (f (came s)) x (came s) s h hs same_x in
      let all = SameTotal-trans (g s) (w.after (f (came s)) (came s) s) (w.after x (came s) s) (next.taken s hs h) steps in
      IsLeastWithin-same w (suc k) s (g s) (w.after x (came s) s) (next_least w keeps k f g from came s round next hs) all;
  first = λ t before live carries. first t before live carries (cases_lt (from t) w.count);
}
  where
    -- what an earlier observation carries on is more than what was taken
    first : (t : ℕ) → t < came s → IsLive w k t → Carries w k t s → (from t < w.count) ⊎ (w.count ≤ from t) → ⊥
    first t before live carries (inl b) =
        let ht : t < w.count = omega arith in
        let here = carries (f t) (round.least t ht) in
        let same = same_least w (suc k) s (g s) (w.after (f t) t s) (next_least w keeps k f g from came s round next hs) here in
        not_less-same (g s) (w.after (f t) t s) same (next.first s t hs h before b)
    first t before live carries (inr b) =
        idle_not_live w k f from t round (omega arith) b live
