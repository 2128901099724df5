-- Walks with their totals: of no step, gone on by one more step, and taken apart at the last one.
use Rattle.std.proofs.Common.{◌≡◌, ℕ, zero, suc, ◌+◌, ◌<◌, arith, ◌∙◌, refl, subst, List, [], ◌∷◌, ◌++◌, length, length-append, All}
use Rattle.rp_walk.specs.ExactTotal.{ExactTotal}
use Rattle.rp_walk.specs.Walk.{TotalRule, IsTotal, end_of, total_after}

All-tail : (P : ℕ → Type 0) (x : ℕ) (xs : List ℕ) → All P (x ∷ xs) → All P xs
All-tail P x xs h k d below = h (suc k) d (omega arith)

All-head : (P : ℕ → Type 0) (x : ℕ) (xs : List ℕ) → All P (x ∷ xs) → P x
All-head P x xs h = h 0 x (omega arith)

pub All-cons : (P : ℕ → Type 0) (x : ℕ) (xs : List ℕ) → P x → All P xs → All P (x ∷ xs)
All-cons P x xs p h zero d below = p
All-cons P x xs p h (suc k) d below = h k d (omega arith)

-- a walk that goes on by one more observation
pub end_of-push : (s : ℕ) (rest : List ℕ) (t : ℕ) → end_of s (rest ++ t ∷ []) ≡ t
end_of-push s [] t = refl
end_of-push s (r ∷ rest) t = end_of-push r rest t

pub total_after-push : (w : TotalRule) (x : ExactTotal) (s : ℕ) (rest : List ℕ) (t : ℕ) → total_after w x s (rest ++ t ∷ []) ≡ w.after (total_after w x s rest) (end_of s rest) t
total_after-push w x s [] t = refl
total_after-push w x s (r ∷ rest) t = total_after-push w (w.after x s r) r rest t

pub within-push : (P : ℕ → Type 0) (rest : List ℕ) (t : ℕ) → All P rest → P t → All P (rest ++ t ∷ [])
within-push P [] t h p = All-cons P t [] p h
within-push P (r ∷ rest) t h p =
    All-cons P r (rest ++ t ∷ []) (All-head P r rest h) (within-push P rest t (All-tail P r rest h) p)

-- a walk of no step
pub IsTotal-here : (w : TotalRule) (s : ℕ) → s < w.count → IsTotal w 0 s w.empty
IsTotal-here w s h = record {
  first = s;
  rest = [];
  walk = record { begins_within = h; goes_within = λ k d below. absurd (omega arith) };
  steps = refl;
  ends = refl;
  total = refl;
}

-- a walk and one more step
pub IsTotal-further : (w : TotalRule) (k t s : ℕ) (x : ExactTotal) → IsTotal w k t x → s < w.count → IsTotal w (suc k) s (w.after x t s)
IsTotal-further w k t s x h below =
    let total : total_after w w.empty h.first (h.rest ++ s ∷ []) ≡ w.after x t s =
    total_after-push w w.empty h.first h.rest s ∙ (λ i. w.after (h.total i) (h.ends i) s) in
    let steps : length (h.rest ++ s ∷ []) ≡ suc k = omega (arith, length-append h.rest (s ∷ []), h.steps) in
    record {
      first = h.first;
      rest = h.rest ++ s ∷ [];
      walk = record {
        begins_within = h.walk.begins_within;
        goes_within = within-push (λ n. n < w.count) h.rest s h.walk.goes_within below;
      };
      steps = steps;
      ends = end_of-push h.first h.rest s;
      total = total;
    }

-- what a walk of k steps that ends at s with the total y is made of
abbrev pub Parts : TotalRule → ℕ → ℕ → ExactTotal → Type 0
Parts w zero s y = (s < w.count) × (w.empty ≡ y)
Parts w (suc k) s y = (t : ℕ) × (x : ExactTotal) × (s < w.count) × IsTotal w k t x × (w.after x t s ≡ y)

Parts-further : (w : TotalRule) (j s t : ℕ) (x : ExactTotal) → t < w.count → IsTotal w j s x → Parts w (suc j) t (w.after x s t)
Parts-further w j s t x below h = (s, x, below, h, refl)

-- a walk that goes on through further observations
Parts-along : (w : TotalRule) (j s : ℕ) (x : ExactTotal) (rest : List ℕ) → IsTotal w j s x → Parts w j s x → All (λ n. n < w.count) rest → Parts w (j + length rest) (end_of s rest) (total_after w x s rest)
Parts-along w j s x [] h p within =
    let e : j ≡ j + 0 = omega arith in
    subst (λ k. Parts w k s x) e p
Parts-along w j s x (t ∷ rest) h p within =
    let below = All-head (λ n. n < w.count) t rest within in
    let e : suc j + length rest ≡ j + suc (length rest) = omega arith in
    subst (λ k. Parts w k (end_of t rest) (total_after w (w.after x s t) t rest)) e
    (Parts-along w (suc j) t (w.after x s t) rest (IsTotal-further w j s t x h below) (Parts-further w j s t x below h)
    (All-tail (λ n. n < w.count) t rest within))

pub IsTotal-parts : (w : TotalRule) (k s : ℕ) (y : ExactTotal) → IsTotal w k s y → Parts w k s y
IsTotal-parts w k s y h =
    let all = Parts-along w 0 h.first w.empty h.rest (IsTotal-here w h.first h.walk.begins_within) (h.walk.begins_within, refl) h.walk.goes_within in
    let steps : 0 + length h.rest ≡ k = omega (arith, h.steps) in
    let a = subst (λ n. Parts w n (end_of h.first h.rest) (total_after w w.empty h.first h.rest)) steps all in
    let b = subst (λ n. Parts w k n (total_after w w.empty h.first h.rest)) h.ends a in
    subst (λ (x : ExactTotal). Parts w k s x) h.total b

pub IsTotal-within : (w : TotalRule) (k s : ℕ) (y : ExactTotal) → IsTotal w k s y → s < w.count
IsTotal-within w zero s y h = (IsTotal-parts w zero s y h).0
IsTotal-within w (suc k) s y h = (IsTotal-parts w (suc k) s y h).2
