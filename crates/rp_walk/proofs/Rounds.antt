-- Round k finds the least totals over walks of at most k steps, for every k: the last step of a walk goes from a total
-- of the round before.
use Rattle.std.proofs.Common.{◌≡◌, ℕ, zero, suc, ◌-◌, ◌<◌, ◌≤◌, arith, ◌⊎◌, inl, inr, sym, refl, subst}
use Rattle.std.proofs.lemmas.Bool.{cases_lt}
use Rattle.rp_walk.specs.ExactTotal.{ExactTotal, IsLess, SameTotal}
use Rattle.rp_walk.specs.Walk.{TotalRule, IsTotal, KeepsOrder}
use Rattle.rp_walk.specs.LeastTotals.{IsLeastWithin}
use Rattle.rp_walk.specs.InnerRounds.{AreRoundTotals, IsNext}
use Rattle.rp_walk.proofs.Order.{IsLess-irrefl, IsLess-asym, not_more_trans, not_less-same, same_not_less}
use Rattle.rp_walk.proofs.Walks.{IsTotal-here, IsTotal-further, IsTotal-parts, IsTotal-within}
use Rattle.rp_walk.proofs.Paths.{after-not_less, after-same}

pub SameTotal-trans : (x y z : ExactTotal) → SameTotal x y → SameTotal y z → SameTotal x z
SameTotal-trans x y z h g =
    same_not_less x z
    (not_more_trans z y x (not_less-same y z g) (not_less-same x y h))
    (not_more_trans x y z (not_less-same y x (sym h)) (not_less-same z y (sym g)))

-- round 0
pub IsLeastWithin-zero : (w : TotalRule) (s : ℕ) → s < w.count → IsLeastWithin w 0 s w.empty
IsLeastWithin-zero w s h = record {
  reached = (0, w.empty, omega arith, IsTotal-here w s h, refl);
  lowest = λ j y few reached. refuted j y few reached;
}
  where
    refuted : (j : ℕ) (y : ExactTotal) → j ≤ 0 → IsTotal w j s y → ¬ (IsLess y w.empty)
    refuted zero y few reached less =
        IsLess-irrefl w.empty (subst (λ (x : ExactTotal). IsLess x w.empty) (sym (IsTotal-parts w zero s y reached).1) less)
    refuted (suc j) y few reached less = absurd (omega arith)

-- a round is not above the one before it
pub not_above : (w : TotalRule) (f g : ℕ → ExactTotal) (from came : ℕ → ℕ) (tried s : ℕ) → IsNext w f from tried g came → s < w.count → ¬ (IsLess (f s) (g s))
not_above w f g from came tried s next below =
    by_cases (cases_lt (came s) w.count)
  where
    by_cases : (came s < w.count) ⊎ (w.count ≤ came s) → ¬ (IsLess (f s) (g s))
    by_cases (inl h) less = IsLess-asym (g s) (f s) (next.less s below h) less
    by_cases (inr h) less = IsLess-irrefl (f s) (subst (λ (x : ExactTotal). IsLess (f s) x) (next.kept s below h) less)

-- the step from an observation is not below the next round, whether it was tried or not
step_not_below : (w : TotalRule) (keeps : KeepsOrder w) (k : ℕ) (f g : ℕ → ExactTotal) (from came : ℕ → ℕ) (s t : ℕ) → AreRoundTotals w k f from → IsNext w f from w.count g came → s < w.count → t < w.count → ¬ (IsLess (w.after (f t) t s) (g s))
step_not_below w keeps k f g from came s t round next hs ht =
    by_cases (cases_lt (from t) w.count)
  where
    by_cases : (from t < w.count) ⊎ (w.count ≤ from t) → ¬ (IsLess (w.after (f t) t s) (g s))
    by_cases (inl h) = next.lowest s t hs ht h
    by_cases (inr h) =
        let idle = round.idle t ht h in
        let r = idle.1.reached in
        let longer = IsTotal-further w r.0 t s r.1 r.3 hs in
        let not_f : ¬ (IsLess (w.after r.1 t s) (f s)) = (round.least s hs).lowest (suc r.0) (w.after r.1 t s) (omega (arith, idle.0, r.2)) longer in
        let same = after-same w keeps r.1 (f t) t s ht hs r.4 in
        let not_here : ¬ (IsLess (w.after (f t) t s) (f s)) = not_more_trans (f s) (w.after r.1 t s) (w.after (f t) t s) not_f (not_less-same (w.after (f t) t s) (w.after r.1 t s) (sym same)) in
        not_more_trans (g s) (f s) (w.after (f t) t s) (not_above w f g from came w.count s next hs) not_here

next_lowest : (w : TotalRule) (keeps : KeepsOrder w) (k : ℕ) (f g : ℕ → ExactTotal) (from came : ℕ → ℕ) (s : ℕ) → AreRoundTotals w k f from → IsNext w f from w.count g came → s < w.count → (j : ℕ) (y : ExactTotal) → j ≤ suc k → IsTotal w j s y → ¬ (IsLess y (g s))
next_lowest w keeps k f g from came s round next hs j y few reached =
    by_cases (cases_lt k j)
  where
    last_step : IsTotal w (suc k) s y → ¬ (IsLess y (g s))
    last_step h =
        let parts = IsTotal-parts w (suc k) s y h in
        let ht = IsTotal-within w k parts.0 parts.1 parts.3 in
        let not_f = (round.least parts.0 ht).lowest k parts.1 (omega arith) parts.3 in
        let up = after-not_less w keeps parts.1 (f parts.0) parts.0 s ht hs not_f in
        let below = step_not_below w keeps k f g from came s parts.0 round next hs ht in
        let all = not_more_trans (g s) (w.after (f parts.0) parts.0 s) (w.after parts.1 parts.0 s) below up in
        subst (λ (x : ExactTotal). ¬ (IsLess x (g s))) parts.4 all

    by_cases : (k < j) ⊎ (j ≤ k) → ¬ (IsLess y (g s))
    by_cases (inl h) =
        let e : j ≡ suc k = omega arith in
        last_step (subst (λ n. IsTotal w n s y) e reached)
    by_cases (inr h) =
        not_more_trans (g s) (f s) y (not_above w f g from came w.count s next hs) ((round.least s hs).lowest j y h reached)

pub next_least : (w : TotalRule) (keeps : KeepsOrder w) (k : ℕ) (f g : ℕ → ExactTotal) (from came : ℕ → ℕ) (s : ℕ) → AreRoundTotals w k f from → IsNext w f from w.count g came → s < w.count → IsLeastWithin w (suc k) s (g s)
next_least w keeps k f g from came s round next hs =
    record {
      reached = by_cases (cases_lt (came s) w.count);
      lowest = next_lowest w keeps k f g from came s round next hs;
    }
  where
    by_cases : (came s < w.count) ⊎ (w.count ≤ came s) → (j : ℕ) × (y : ExactTotal) × (j ≤ suc k) × IsTotal w j s y × SameTotal y (g s)
    by_cases (inl h) =
        let t = came s in
        let r = (round.least t h).reached in
        let longer = IsTotal-further w r.0 t s r.1 r.3 hs in
        let same = after-same w keeps r.1 (f t) t s h hs r.4 in (
          suc r.0,
          w.after r.1 t s,
          omega (arith, r.2),
          longer,
          SameTotal-trans (w.after r.1 t s) (w.after (f t) t s) (g s) same (sym (next.taken s hs h)),
        )
    by_cases (inr h) =
        let r = (round.least s hs).reached in
        (r.0, r.1, omega (arith, r.2), r.3, subst (λ (x : ExactTotal). SameTotal r.1 x) (sym (next.kept s hs h)) r.4)

-- the next round is one
pub AreRoundTotals-next : (w : TotalRule) (keeps : KeepsOrder w) (k : ℕ) (f g : ℕ → ExactTotal) (from came : ℕ → ℕ) → AreRoundTotals w k f from → IsNext w f from w.count g came → AreRoundTotals w (suc k) g came
AreRoundTotals-next w keeps k f g from came round next = record {
  least = λ s hs. next_least w keeps k f g from came s round next hs;
  live = λ s hs h. inr (
    g s,
    f s,
    next_least w keeps k f g from came s round next hs,
    subst (λ n. IsLeastWithin w n s (f s)) back (round.least s hs),
    next.less s hs h,
  );
  idle = λ s hs h. (
    omega arith,
    subst (λ n. IsLeastWithin w n s (g s)) back
        (subst (λ (x : ExactTotal). IsLeastWithin w k s x) (sym (next.kept s hs h)) (round.least s hs)),
  );
}
  where
    back : k ≡ suc k - 1
    back = omega arith
