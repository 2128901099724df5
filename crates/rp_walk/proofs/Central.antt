-- Closed parts that fall below their start. A walk of as many steps as there are observations repeats one; were no
-- closed part falling, leaving one out would give a shorter walk with no greater total. Where closed walks treat all
-- starts alike, least totals leave none that falls: going round once more would be less than the least.
use Rattle.std.proofs.Common.{◌≡◌, ℕ, zero, suc, ◌+◌, ◌<◌, ◌≤◌, arith, ap, sym, ◌∙◌, refl, subst, List, [], ◌∷◌, length, get_or, All}
use Rattle.rp_walk.specs.ExactTotal.{ExactTotal, IsLess}
use Rattle.rp_walk.specs.Walk.{prefix_total, TotalRule, IsTotal, KeepsOrder, StartsAlike, end_of, total_after}
use Rattle.rp_walk.specs.LeastTotals.{IsLessThanShorter}
use Rattle.rp_walk.specs.Settled.{HasLeastTotals, FallsBelowStart}
use Rattle.rp_walk.proofs.Order.{less_not_more, not_more_less, not_less-same}
use Rattle.rp_walk.proofs.Walks.{IsTotal-further}
use Rattle.rp_walk.proofs.Paths.{closed_part_below}
use Rattle.rp_walk.proofs.Cycles.{total_after-same}
use Rattle.rp_num.proofs.Repeats.{repeats}

-- the first n + 1 values of a function, in a list
values : (ℕ → ℕ) → ℕ → ℕ → List ℕ
values p a zero = p a ∷ []
values p a (suc n) = p a ∷ values p (suc a) n

length-values : (p : ℕ → ℕ) (a n : ℕ) → length (values p a n) ≡ suc n
unfolding values
length-values p a zero = refl
length-values p a (suc n) = ap suc (length-values p (suc a) n)

get_or-values : (p : ℕ → ℕ) (a n m d : ℕ) → m ≤ n → get_or (values p a n) m d ≡ p (a + m)
unfolding values
get_or-values p a zero zero d h = let e : a ≡ a + 0 = omega arith in ap p e
get_or-values p a zero (suc m) d h = absurd (omega arith)
get_or-values p a (suc n) zero d h = let e : a ≡ a + 0 = omega arith in ap p e
get_or-values p a (suc n) (suc m) d h =
    let e : suc a + m ≡ a + suc m = omega arith in
    get_or-values p (suc a) n m d (omega arith) ∙ ap p e

-- a walk of as many steps as there are observations, whose total is less than that of every walk with
-- fewer steps to its end, has a closed part that ends below its start
pub holds_closed_part : (w : TotalRule) (p : ℕ → ℕ) → KeepsOrder w → ((m : ℕ) → m ≤ w.count → p m < w.count) → IsLessThanShorter w w.count (p w.count) (prefix_total w p w.count) → (a d : ℕ) × (0 < d) × (a + d ≤ w.count) × (p a ≡ p (a + d)) × IsLess (prefix_total w p (a + d)) (prefix_total w p a)
holds_closed_part w p keeps within shorter =
    let len = length-values p 0 w.count in
    let r = repeats w.count (values p 0 w.count) inside (omega arith) in
    let few : r.0 + r.1 ≤ w.count = omega (arith, r.3, len) in
    let here : get_or (values p 0 w.count) r.0 0 ≡ p r.0 = place r.0 (omega arith) in
    let there : get_or (values p 0 w.count) (r.0 + r.1) 0 ≡ p (r.0 + r.1) = place (r.0 + r.1) few in
    let same : p r.0 ≡ p (r.0 + r.1) = sym here ∙ r.4 ∙ there in
    (r.0, r.1, r.2, few, same, closed_part_below w keeps p w.count r.0 (r.0 + r.1) within shorter (omega (arith, r.2)) few same)
  where
    place : (m : ℕ) → m ≤ w.count → get_or (values p 0 w.count) m 0 ≡ p m
    place m h =
        let e : 0 + m ≡ m = omega arith in
        get_or-values p 0 w.count m 0 h ∙ ap p e

    inside : All (λ n. n < w.count) (values p 0 w.count)
    inside m d below =
        let h : m ≤ w.count = omega (arith, length-values p 0 w.count) in
        let e : 0 + m ≡ m = omega arith in
        let v = get_or-values p 0 w.count m d h ∙ ap p e in
        subst (λ n. n < w.count) (sym v) (within m h)

IsTotal-along : (w : TotalRule) (j s : ℕ) (x : ExactTotal) (rest : List ℕ) → IsTotal w j s x → All (λ n. n < w.count) rest → IsTotal w (j + length rest) (end_of s rest) (total_after w x s rest)
IsTotal-along w j s x [] h within =
    let e : j ≡ j + 0 = omega arith in
    subst (λ k. IsTotal w k s x) e h
IsTotal-along w j s x (t ∷ rest) h within =
    let e : suc j + length rest ≡ j + suc (length rest) = omega arith in
    subst (λ k. IsTotal w k (end_of t rest) (total_after w (w.after x s t) t rest)) e
    (IsTotal-along w (suc j) t (w.after x s t) rest (IsTotal-further w j s t x h (within 0 t (omega arith)))
    (λ k d below. within (suc k) d (omega arith)))

-- where closed walks treat all starts alike, least totals leave no walk that does
pub no_walk_falls : (w : TotalRule) → KeepsOrder w → StartsAlike w → HasLeastTotals w → (start : ExactTotal) (walk : List ℕ) → ¬ (FallsBelowStart w start walk)
no_walk_falls w keeps starts all start walk v =
    let hs = v.is_walk.begins_within in
    let least = all v.first hs in
    let r = least.1.reached in
    let x = v.start_reached in
    let ends = total_after-same w keeps x.1 start v.first v.rest hs v.is_walk.goes_within x.3 in
    let less_x : IsLess (total_after w x.1 v.first v.rest) x.1 =
    not_more_less (total_after w x.1 v.first v.rest) (total_after w start v.first v.rest) x.1
    (not_less-same (total_after w start v.first v.rest) (total_after w x.1 v.first v.rest) (sym ends))
    (less_not_more (total_after w start v.first v.rest) start x.1 v.ends_below (not_less-same x.1 start x.3)) in
    let less_r = starts v.first v.rest v.is_walk v.closed x.0 r.0 x.1 r.1 x.2 r.2 less_x in
    let along = subst (λ s. IsTotal w (r.0 + length v.rest) s (total_after w r.1 v.first v.rest)) v.closed
    (IsTotal-along w r.0 v.first r.1 v.rest r.2 v.is_walk.goes_within) in
    least.1.lowest (r.0 + length v.rest) (total_after w r.1 v.first v.rest) along
    (less_not_more (total_after w r.1 v.first v.rest) r.1 least.0 less_r (not_less-same least.0 r.1 (sym r.3)))
