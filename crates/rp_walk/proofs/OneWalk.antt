-- The walk that the rounds give, and its first closed part, are one.
use Rattle.std.proofs.Common.{◌≡◌, ℕ, zero, suc, ◌+◌, ◌-◌, ◌<◌, ◌≤◌, ◌⊎◌, inl, inr, arith, sym, ◌∙◌, subst, List, get_or, take, drop}
use Rattle.std.proofs.lemmas.Bool.{cases_lt}
use Rattle.std.proofs.lemmas.List.{ext_get_or}
use Rattle.rp_walk.specs.ExactTotal.{ExactTotal, SameTotal}
use Rattle.rp_walk.specs.Walk.{TotalRule, prefix_total}
use Rattle.rp_walk.specs.RoundWalk.{CameFrom, IsCutFromRounds, IsFirstClosedPart, IsFirstLive, IsRoundWalk}
use Rattle.rp_walk.proofs.Rounds.{SameTotal-trans}

-- two numbers of which none is before the other
neither_before : (i j : ℕ) → ¬ (i < j) → ¬ (j < i) → i ≡ j
neither_before i j h g = by_cases (cases_lt i j) (cases_lt j i)
  where
    by_cases : (i < j) ⊎ (j ≤ i) → (j < i) ⊎ (i ≤ j) → i ≡ j
    by_cases (inl p) q = absurd (h p)
    by_cases (inr p) (inl q) = absurd (g q)
    by_cases (inr p) (inr q) = omega arith

first_live_one : (w : TotalRule) (k s t : ℕ) → IsFirstLive w k s → IsFirstLive w k t → s ≡ t
first_live_one w k s t h g = neither_before s t (λ before. g.none_before s before h.live) (λ before. h.none_before t before g.live)

came_one : (w : TotalRule) (k s t t' : ℕ) → CameFrom w k s t → CameFrom w k s t' → t ≡ t'
came_one w k s t t' h g = neither_before t t' (λ before. g.first t before h.live h.carries) (λ before. h.first t' before g.live g.carries)

entries_one : (w : TotalRule) (p q : List ℕ) → IsRoundWalk w p → IsRoundWalk w q → (d m : ℕ) → m + d ≡ w.count → get_or p m 0 ≡ get_or q m 0
entries_one w p q h g zero m e =
    let n : w.count ≡ m = omega arith in
    subst (λ i. get_or p i 0 ≡ get_or q i 0) n (first_live_one w w.count (get_or p w.count 0) (get_or q w.count 0) h.ends g.ends)
entries_one w p q h g (suc d) m e =
    let later = entries_one w p q h g d (suc m) (omega arith) in
    came_one w m (get_or q (suc m) 0) (get_or p m 0) (get_or q m 0)
    (subst (λ s. CameFrom w m s (get_or p m 0)) later (h.came m (omega arith))) (g.came m (omega arith))

pub round_walk_one : (w : TotalRule) (p q : List ℕ) → IsRoundWalk w p → IsRoundWalk w q → p ≡ q
round_walk_one w p q h g =
    ext_get_or 0 p q (h.one_more ∙ sym g.one_more)
    (λ m inside. let all : m + (w.count - m) ≡ w.count = omega (arith, h.one_more) in entries_one w p q h g (w.count - m) m all)

first_end_one : (p : List ℕ) (a b a' b' : ℕ) → IsFirstClosedPart p a b → IsFirstClosedPart p a' b' → b ≡ b'
first_end_one p a b a' b' h g = neither_before b b' (λ before. g.first a b h.in_order before h.closed) (λ before. h.first a' b' g.in_order before g.closed)

first_start_one : (p : List ℕ) (a a' b : ℕ) → IsFirstClosedPart p a b → IsFirstClosedPart p a' b → a ≡ a'
first_start_one p a a' b h g =
    neither_before a a' (λ before. h.first a a' before g.in_order (h.closed ∙ sym g.closed)) (λ before. h.first a' a before h.in_order (g.closed ∙ sym h.closed))

pub cut_one : (w : TotalRule) (start start' : ExactTotal) (x y : List ℕ) → IsCutFromRounds w start x → IsCutFromRounds w start' y → (x ≡ y) × SameTotal start start'
cut_one w start start' x y h g =
    let walk = round_walk_one w h.walk g.walk h.is_given g.is_given in
    let there = subst (λ (p : List ℕ). IsFirstClosedPart p h.a h.b) walk h.first_part in
    let end = first_end_one g.walk h.a h.b g.a g.b there g.first_part in
    let begins = first_start_one g.walk h.a g.a g.b (subst (λ b. IsFirstClosedPart g.walk h.a b) end there) g.first_part in (
      h.cycle_is ∙ (λ i. take (end i + 1 - begins i) (drop (begins i) (walk i))) ∙ sym g.cycle_is,
      SameTotal-trans start (prefix_total w (λ m. get_or g.walk m 0) g.a) start'
          (subst (λ (v : ExactTotal). SameTotal start v) (λ i. prefix_total w (λ m. get_or (walk i) m 0) (begins i)) (sym h.start_is)) g.start_is,
    )
