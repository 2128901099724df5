-- A walk that the rounds found, and its closed parts. Each of its beginnings is a least walk and each of its steps
-- fits; a part that ends where it began, and below its total there, falls below its start.
use Rattle.std.proofs.Common.{◌≡◌, ℕ, zero, suc, ◌+◌, ◌<◌, ◌≤◌, arith, ◌⊎◌, inl, inr, ap, sym, ◌∙◌, refl, subst, List, [], ◌∷◌, length, get_or, take, drop, All, drop-cons}
use Rattle.std.proofs.lemmas.Bool.{cases_lt}
use Rattle.rp_walk.specs.ExactTotal.{ExactTotal, IsLess, SameTotal}
use Rattle.rp_walk.specs.Walk.{IsSimpleCycle, TotalRule, end_of, prefix_total, total_after, KeepsOrder}
use Rattle.rp_walk.specs.LeastTotals.{IsLeastWithin, IsLive, NoneTooWide}
use Rattle.rp_walk.specs.Settled.{FallsBelowStart}
use Rattle.rp_walk.specs.RoundWalk.{CameFrom, IsRoundWalk}
use Rattle.rp_walk.proofs.Order.{less_not_more, not_more_less, not_less-same}
use Rattle.rp_walk.proofs.Paths.{after-same, IsTotal-prefix, closed_part_below, live_less_shorter}
use Rattle.rp_walk.proofs.Rounds.{IsLeastWithin-zero}

-- A walk that the rounds found: p 0, p 1, .. to p k.
pub record IsFound (w : TotalRule) (k : ℕ) (p : ℕ → ℕ) : Type 0 where
  pub ends_within : p k < w.count
  pub live : IsLive w k (p k)
  pub came : (m : ℕ) → m < k → CameFrom w m (p (suc m)) (p m)

pub IsFound-given : (w : TotalRule) (walk : List ℕ) → IsRoundWalk w walk → IsFound w w.count (λ m. get_or walk m 0)
IsFound-given w walk given = record {
  ends_within = given.ends.within;
  live = given.ends.live;
  came = given.came;
}

pub found_within : (w : TotalRule) (k : ℕ) (p : ℕ → ℕ) → IsFound w k p → (m : ℕ) → m ≤ k → p m < w.count
found_within w k p found m h = by_cases (cases_lt m k)
  where
    by_cases : (m < k) ⊎ (k ≤ m) → p m < w.count
    by_cases (inl b) = (found.came m b).within
    by_cases (inr b) =
        let e : k ≡ m = omega arith in
        subst (λ n. p n < w.count) e found.ends_within

pub found_live : (w : TotalRule) (k : ℕ) (p : ℕ → ℕ) → IsFound w k p → (m : ℕ) → m ≤ k → IsLive w m (p m)
found_live w k p found m h = by_cases (cases_lt m k)
  where
    by_cases : (m < k) ⊎ (k ≤ m) → IsLive w m (p m)
    by_cases (inl b) = (found.came m b).live
    by_cases (inr b) =
        let e : k ≡ m = omega arith in
        subst (λ n. IsLive w n (p n)) e found.live

-- each of its parts from the beginning is a least walk
pub found_least : (w : TotalRule) (k : ℕ) (p : ℕ → ℕ) → IsFound w k p → (m : ℕ) → m ≤ k → IsLeastWithin w m (p m) (prefix_total w p m)
found_least w k p found zero h = IsLeastWithin-zero w (p 0) (found_within w k p found 0 h)
found_least w k p found (suc m) h =
    (found.came m (omega arith)).carries (prefix_total w p m) (found_least w k p found m (omega arith))

-- the steps of a found walk fit, where no triple is too wide
pub found_fits : (w : TotalRule) (fits : ExactTotal → Type 0) (k : ℕ) (p : ℕ → ℕ) → IsFound w k p → k ≤ w.count → NoneTooWide w fits → (m : ℕ) → m < k → ¬ (¬ (fits (w.after (prefix_total w p m) (p m) (p (suc m)))))
found_fits w fits k p found few none m h nofit =
    none m (p m) (p (suc m)) (record {
      round_within = omega arith;
      from_within = found_within w k p found m (omega arith);
      to_within = found_within w k p found (suc m) (omega arith);
      live = found_live w k p found m (omega arith);
      not_fit = (prefix_total w p m, found_least w k p found m (omega arith), nofit);
    })

-- the observations that a walk goes on to after p a, for d steps
abbrev pub segment : (ℕ → ℕ) → ℕ → ℕ → List ℕ
segment p a zero = []
segment p a (suc d) = p (suc a) ∷ segment p (suc a) d

length-segment : (p : ℕ → ℕ) (a d : ℕ) → length (segment p a d) ≡ d
length-segment p a zero = refl
length-segment p a (suc d) = ap suc (length-segment p (suc a) d)

pub end_of-segment : (p : ℕ → ℕ) (a d : ℕ) → end_of (p a) (segment p a d) ≡ p (a + d)
end_of-segment p a zero =
    let e : a ≡ a + 0 = omega arith in ap p e
end_of-segment p a (suc d) =
    let e : suc a + d ≡ a + suc d = omega arith in
    end_of-segment p (suc a) d ∙ ap p e

pub total_after-segment : (w : TotalRule) (p : ℕ → ℕ) (a d : ℕ) → total_after w (prefix_total w p a) (p a) (segment p a d) ≡ prefix_total w p (a + d)
total_after-segment w p a zero =
    let e : a ≡ a + 0 = omega arith in ap (prefix_total w p) e
total_after-segment w p a (suc d) =
    let e : suc a + d ≡ a + suc d = omega arith in
    total_after-segment w p (suc a) d ∙ ap (prefix_total w p) e

segment-within : (P : ℕ → Type 0) (p : ℕ → ℕ) (a d : ℕ) → ((m : ℕ) → a ≤ m → m ≤ a + d → P (p m)) → All P (segment p a d)
segment-within P p a zero h k e below = absurd (omega arith)
segment-within P p a (suc d) h zero e below = h (suc a) (omega arith) (omega arith)
segment-within P p a (suc d) h (suc k) e below =
    segment-within P p (suc a) d (λ m l u. h m (omega arith) (omega arith)) k e (omega arith)

-- from the same number, a walk ends at the same number
pub total_after-same : (w : TotalRule) (keeps : KeepsOrder w) (x y : ExactTotal) (s : ℕ) (rest : List ℕ) → s < w.count → All (λ n. n < w.count) rest → SameTotal x y → SameTotal (total_after w x s rest) (total_after w y s rest)
total_after-same w keeps x y s [] hs within h = h
total_after-same w keeps x y s (t ∷ rest) hs within h =
    let ht : t < w.count = within 0 t (omega arith) in
    total_after-same w keeps (w.after x s t) (w.after y s t) t rest ht
    (λ k d below. within (suc k) d (omega arith))
    (after-same w keeps x y s t hs ht h)

-- a closed part that ends below its total at the beginning falls below its start
pub FallsBelowStart-below : (w : TotalRule) (keeps : KeepsOrder w) (k : ℕ) (p : ℕ → ℕ) (a d : ℕ) (start : ExactTotal) → ((m : ℕ) → m ≤ k → p m < w.count) → 0 < d → a + d ≤ k → p a ≡ p (a + d) → SameTotal (prefix_total w p a) start → IsLess (prefix_total w p (a + d)) (prefix_total w p a) → FallsBelowStart w start (p a ∷ segment p a d)
FallsBelowStart-below w keeps k p a d start within some few same is_start less = record {
  first = p a;
  rest = segment p a d;
  is_walk = record { begins_within = within a (omega arith); goes_within = inside };
  walk_is = refl;
  has_step = omega (arith, length-segment p a d);
  closed = end_of-segment p a d ∙ sym same;
  start_reached = (a, prefix_total w p a, IsTotal-prefix w p a (λ m h. within m (omega arith)), is_start);
  ends_below = below;
}
  where
    inside : All (λ n. n < w.count) (segment p a d)
    inside = segment-within (λ n. n < w.count) p a d (λ m l u. within m (omega arith))

    below : IsLess (total_after w start (p a) (segment p a d)) start
    below =
        let ends = total_after-same w keeps (prefix_total w p a) start (p a) (segment p a d) (within a (omega arith)) inside is_start in
        let ends_at = subst (λ (x : ExactTotal). SameTotal x (total_after w start (p a) (segment p a d))) (total_after-segment w p a d) ends in
        not_more_less (total_after w start (p a) (segment p a d)) (prefix_total w p (a + d)) start
        (not_less-same (prefix_total w p (a + d)) (total_after w start (p a) (segment p a d)) ends_at)
        (less_not_more (prefix_total w p (a + d)) (prefix_total w p a) start less (not_less-same start (prefix_total w p a) (sym is_start)))

-- a closed part of a found walk falls below its start, from its total at that place
pub FallsBelowStart-part : (w : TotalRule) (keeps : KeepsOrder w) (k : ℕ) (p : ℕ → ℕ) (a d : ℕ) (start : ExactTotal) → IsFound w k p → 0 < d → a + d ≤ k → p a ≡ p (a + d) → SameTotal (prefix_total w p a) start → FallsBelowStart w start (p a ∷ segment p a d)
FallsBelowStart-part w keeps k p a d start found some few same is_start =
    let within = found_within w k p found in
    let shorter = live_less_shorter w k (p k) (prefix_total w p k) (found_least w k p found k (omega arith)) found.live in
    let less = closed_part_below w keeps p k a (a + d) within shorter (omega arith) few same in
    FallsBelowStart-below w keeps k p a d start within some few same is_start less

-- the part of a list from a place on, as a walk
pub drop-segment : (xs : List ℕ) (a d : ℕ) → a + d < length xs → take (suc d) (drop a xs) ≡ get_or xs a 0 ∷ segment (λ m. get_or xs m 0) a d
drop-segment xs a zero h =
    let below : a < length xs = omega arith in
    rw (drop-cons xs a 0) refl
drop-segment xs a (suc d) h =
    let below : a < length xs = omega arith in
    let rest = drop-segment xs (suc a) d (omega arith) in
    rw (drop-cons xs a 0) (ap (λ ys. get_or xs a 0 ∷ ys) rest)

pub get_or-segment : (p : ℕ → ℕ) (a d i : ℕ) → i ≤ d → get_or (p a ∷ segment p a d) i 0 ≡ p (a + i)
get_or-segment p a d zero few =
    let e : a ≡ a + 0 = omega arith in ap p e
get_or-segment p a zero (suc i) few = absurd (omega arith)
get_or-segment p a (suc d) (suc i) few =
    let e : suc a + i ≡ a + suc i = omega arith in
    get_or-segment p (suc a) d i (omega arith) ∙ ap p e

-- a closed part before whose end nothing repeats is a simple cycle
pub IsSimpleCycle-part : (n : ℕ) (p : ℕ → ℕ) (a d : ℕ) → a + d ≤ n → ((i j : ℕ) → i < j → j < a + d → p i ≡ p j → ⊥) → IsSimpleCycle n (p a ∷ segment p a d)
IsSimpleCycle-part n p a d few distinct = record {
  few = omega (arith, length-segment p a d);
  distinct = λ i j order inside same.
      let below : j < d = omega (arith, length-segment p a d) in
      distinct (a + i) (a + j) (omega arith) (omega arith)
      (sym (get_or-segment p a d i (omega arith)) ∙ same ∙ get_or-segment p a d j (omega arith));
}
