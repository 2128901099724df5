-- One round of steps, observation by observation: what it has found by the first t of them, and that all their steps
-- fit.
use Rattle.std.proofs.Common.{◌≡◌, ℕ, ◌+◌, ◌<◌, ◌≤◌, arith, ◌⊎◌, inl, inr, sym, ◌∙◌, subst, List, get_or}
use Rattle.std.proofs.lemmas.Bool.{cases_lt}
use Rattle.rp_walk.specs.ExactTotal.{ExactTotal, IsLess, SameTotal}
use Rattle.rp_walk.specs.Walk.{TotalRule}
use Rattle.rp_walk.specs.InnerRounds.{totals_of, IsNext, IsTried, StepsFit, TriedFits}
use Rattle.rp_walk.proofs.Order.{IsLess-irrefl, IsLess-asym, less_not_more, not_more_less, not_more_trans, less_or_not, not_less-same}
use Rattle.rp_walk.proofs.Rounds.{not_above}

-- an observation that is not gone on from changes nothing
pub IsNext-idle : (w : TotalRule) (f : ℕ → ExactTotal) (from : ℕ → ℕ) (t : ℕ) (g : ℕ → ExactTotal) (came : ℕ → ℕ) → IsNext w f from t g came → w.count ≤ from t → IsNext w f from (t + 1) g came
IsNext-idle w f from t g came next idle = record {
  kept = next.kept;
  tried_from = λ s hs h. omega (arith, next.tried_from s hs h);
  live_from = next.live_from;
  taken = next.taken;
  less = next.less;
  lowest = λ s t' hs h live. lowest s t' hs h live (cases_lt t' t);
  first = next.first;
}
  where
    lowest : (s t' : ℕ) → s < w.count → t' < t + 1 → from t' < w.count → (t' < t) ⊎ (t ≤ t') → ¬ (IsLess (w.after (f t') t' s) (g s))
    lowest s t' hs h live (inl b) = next.lowest s t' hs b live
    lowest s t' hs h live (inr b) =
        let e : t' ≡ t = omega arith in
        let p : from t < w.count = subst (λ n. from n < w.count) e live in
        absurd (omega arith)

-- the steps from one more observation
pub IsNext-more : {V : Type 0} (w : TotalRule) (exact : V → ExactTotal) (f : ℕ → ExactTotal) (from : ℕ → ℕ) (t : ℕ) (old : List V) (old_from : List ℕ) (new : List V) (new_from : List ℕ) (x : ExactTotal) → IsNext w f from t (totals_of exact w.empty old) (λ s. get_or old_from s 0) → t < w.count → from t < w.count → f t ≡ x → IsTried w exact x t old old_from w.count new new_from → IsNext w f from (t + 1) (totals_of exact w.empty new) (λ s. get_or new_from s 0)
IsNext-more {V} w exact f from t old old_from new new_from x next ht live is_x tried = record {
  kept = λ s hs h. kept s hs h (choice s hs);
  tried_from = λ s hs h. tried_from s hs h (choice s hs);
  live_from = λ s hs h. live_from s hs h (choice s hs);
  taken = λ s hs h. taken s hs h (choice s hs);
  less = λ s hs h. less s hs h (choice s hs);
  lowest = λ s t' hs h l. lowest s t' hs h l (cases_lt t' t);
  first = λ s t' hs h before l. first s t' hs h before l (choice s hs);
}
  where
    g : ℕ → ExactTotal
    g = totals_of exact w.empty old

    g' : ℕ → ExactTotal
    g' = totals_of exact w.empty new

    came : ℕ → ℕ
    came s = get_or old_from s 0

    came' : ℕ → ℕ
    came' s = get_or new_from s 0

    Taken : ℕ → Type 0
    Taken s = IsLess (w.after x t s) (g s) × SameTotal (g' s) (w.after x t s) × (came' s ≡ t)

    Kept : ℕ → Type 0
    Kept s = (¬ (IsLess (w.after x t s) (g s))) × (g' s ≡ g s) × (came' s ≡ came s)

    choice : (s : ℕ) → s < w.count → Taken s ⊎ Kept s
    choice s hs = decided (less_or_not (w.after x t s) (g s))
      where
        decided : IsLess (w.after x t s) (g s) ⊎ (¬ (IsLess (w.after x t s) (g s))) → Taken s ⊎ Kept s
        decided (inl p) = let q = tried.taken s hs p in inl (p, q.0, q.1)
        decided (inr p) = let q = tried.kept s hs p in inr (p, q.0, q.1)

    kept : (s : ℕ) → s < w.count → w.count ≤ came' s → Taken s ⊎ Kept s → g' s ≡ f s
    kept s hs h (inl p) = absurd (omega (arith, p.2))
    kept s hs h (inr p) = p.1 ∙ next.kept s hs (omega (arith, p.2))

    tried_from : (s : ℕ) → s < w.count → came' s < w.count → Taken s ⊎ Kept s → came' s < t + 1
    tried_from s hs h (inl p) = omega (arith, p.2)
    tried_from s hs h (inr p) = omega (arith, p.2, next.tried_from s hs (omega (arith, p.2)))

    live_from : (s : ℕ) → s < w.count → came' s < w.count → Taken s ⊎ Kept s → from (came' s) < w.count
    live_from s hs h (inl p) = subst (λ n. from n < w.count) (sym p.2) live
    live_from s hs h (inr p) = subst (λ n. from n < w.count) (sym p.2) (next.live_from s hs (omega (arith, p.2)))

    taken : (s : ℕ) → s < w.count → came' s < w.count → Taken s ⊎ Kept s → SameTotal (g' s) (w.after (f (came' s)) (came' s) s)
    taken s hs h (inl p) =
        let at_t = subst (λ (y : ExactTotal). SameTotal (g' s) (w.after y t s)) (sym is_x) p.1 in
        subst (λ n. SameTotal (g' s) (w.after (f n) n s)) (sym p.2) at_t
    taken s hs h (inr p) =
        let at_old = next.taken s hs (omega (arith, p.2)) in
        let at_new = subst (λ (y : ExactTotal). SameTotal y (w.after (f (came s)) (came s) s)) (sym p.1) at_old in
        subst (λ n. SameTotal (g' s) (w.after (f n) n s)) (sym p.2) at_new

    less : (s : ℕ) → s < w.count → came' s < w.count → Taken s ⊎ Kept s → IsLess (g' s) (f s)
    less s hs h (inl p) =
        less_not_more (g' s) (g s) (f s)
        (not_more_less (g' s) (w.after x t s) (g s) (not_less-same (w.after x t s) (g' s) (sym p.1)) p.0)
        (not_above w f g from came t s next hs)
    less s hs h (inr p) = subst (λ (y : ExactTotal). IsLess y (f s)) (sym p.1) (next.less s hs (omega (arith, p.2)))

    below_old : (s : ℕ) → Taken s ⊎ Kept s → ¬ (IsLess (g s) (g' s))
    below_old s (inl p) =
        IsLess-asym (g' s) (g s) (not_more_less (g' s) (w.after x t s) (g s) (not_less-same (w.after x t s) (g' s) (sym p.1)) p.0)
    below_old s (inr p) = subst (λ (y : ExactTotal). ¬ (IsLess (g s) y)) (sym p.1) (IsLess-irrefl (g s))

    first : (s t' : ℕ) → s < w.count → came' s < w.count → t' < came' s → from t' < w.count → Taken s ⊎ Kept s → IsLess (g' s) (w.after (f t') t' s)
    first s t' hs h before l (inl p) =
        less_not_more (g' s) (g s) (w.after (f t') t' s)
        (not_more_less (g' s) (w.after x t s) (g s) (not_less-same (w.after x t s) (g' s) (sym p.1)) p.0)
        (next.lowest s t' hs (omega (arith, p.2)) l)
    first s t' hs h before l (inr p) =
        subst (λ (y : ExactTotal). IsLess y (w.after (f t') t' s)) (sym p.1)
        (next.first s t' hs (omega (arith, p.2)) (omega (arith, p.2)) l)

    at_t : (s : ℕ) → Taken s ⊎ Kept s → ¬ (IsLess (w.after x t s) (g' s))
    at_t s (inl p) = not_less-same (w.after x t s) (g' s) (sym p.1)
    at_t s (inr p) = subst (λ (y : ExactTotal). ¬ (IsLess (w.after x t s) y)) (sym p.1) p.0

    lowest : (s t' : ℕ) → s < w.count → t' < t + 1 → from t' < w.count → (t' < t) ⊎ (t ≤ t') → ¬ (IsLess (w.after (f t') t' s) (g' s))
    lowest s t' hs h l (inl b) =
        not_more_trans (g' s) (g s) (w.after (f t') t' s) (below_old s (choice s hs)) (next.lowest s t' hs b l)
    lowest s t' hs h l (inr b) =
        let e : t ≡ t' = omega arith in
        let here = subst (λ (y : ExactTotal). ¬ (IsLess (w.after y t s) (g' s))) (sym is_x) (at_t s (choice s hs)) in
        subst (λ n. ¬ (IsLess (w.after (f n) n s) (g' s))) e here

pub TriedFits-more : (w : TotalRule) (fits : ExactTotal → Type 0) (f : ℕ → ExactTotal) (from : ℕ → ℕ) (t : ℕ) (x : ExactTotal) → TriedFits w fits f from t → f t ≡ x → StepsFit w fits x t w.count → TriedFits w fits f from (t + 1)
TriedFits-more w fits f from t x h is_x fit t' s below hs live = by_cases (cases_lt t' t)
  where
    by_cases : (t' < t) ⊎ (t ≤ t') → ¬ (¬ (fits (w.after (f t') t' s)))
    by_cases (inl b) = h t' s b hs live
    by_cases (inr b) =
        let e : t ≡ t' = omega arith in
        let here = subst (λ (y : ExactTotal). ¬ (¬ (fits (w.after y t s)))) (sym is_x) (fit s hs) in
        subst (λ n. ¬ (¬ (fits (w.after (f n) n s)))) e here

pub TriedFits-idle : (w : TotalRule) (fits : ExactTotal → Type 0) (f : ℕ → ExactTotal) (from : ℕ → ℕ) (t : ℕ) → TriedFits w fits f from t → w.count ≤ from t → TriedFits w fits f from (t + 1)
TriedFits-idle w fits f from t h idle t' s below hs live = by_cases (cases_lt t' t)
  where
    by_cases : (t' < t) ⊎ (t ≤ t') → ¬ (¬ (fits (w.after (f t') t' s)))
    by_cases (inl b) = h t' s b hs live
    by_cases (inr b) =
        let e : t' ≡ t = omega arith in
        let p : from t < w.count = subst (λ n. from n < w.count) e live in
        absurd (omega arith)
