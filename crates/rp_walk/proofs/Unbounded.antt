-- A least total over all walks is that of a walk with fewer steps than observations: a longer one repeats, and without
-- the part between it is no greater. So where the last round still made a total less, some have no least one.
use Rattle.std.proofs.Common.{◌≡◌, ℕ, zero, suc, ◌+◌, ◌-◌, ◌<◌, ◌≤◌, arith, ◌⊎◌, inl, inr, ap, sym, ◌∙◌, subst, List, [], ◌∷◌, length, get_or, take, All}
use Rattle.std.proofs.Math.Seq.{take-length}
use Rattle.std.proofs.lemmas.Bool.{cases_lt}
use Rattle.rp_walk.specs.ExactTotal.{ExactTotal, IsLess, SameTotal}
use Rattle.rp_walk.specs.Walk.{prefix_total, TotalRule, IsTotal, end_of, total_after, KeepsOrder}
use Rattle.rp_walk.specs.LeastTotals.{IsLeast, IsLive}
use Rattle.rp_walk.specs.Settled.{HasLeastTotals}
use Rattle.rp_walk.proofs.Order.{IsLess-irrefl, not_more_trans, not_less-same, same_not_less}
use Rattle.rp_walk.proofs.Walks.{All-cons}
use Rattle.rp_walk.proofs.Paths.{IsTotal-prefix, follow}
use Rattle.rp_walk.proofs.Cycles.{segment, drop-segment, end_of-segment, total_after-segment}
use Rattle.rp_num.proofs.Repeats.{Repeats, repeats}

-- the observations of a walk by their places
abbrev pub entry_of : ℕ → List ℕ → ℕ → ℕ
entry_of first rest m = get_or (first ∷ rest) m 0

segment-whole : (first : ℕ) (rest : List ℕ) → rest ≡ segment (entry_of first rest) 0 (length rest)
segment-whole first rest =
    let parts = drop-segment (first ∷ rest) 0 (length rest) (omega arith) in
    let all : take (length rest) rest ≡ rest = take-length rest in
    sym all ∙ ap tail parts
  where
    tail : List ℕ → List ℕ
    tail [] = []
    tail (x ∷ xs) = xs

entry_of-within : (n first : ℕ) (rest : List ℕ) → first < n → All (λ s. s < n) rest → (m : ℕ) → m ≤ length rest → entry_of first rest m < n
entry_of-within n first rest h within zero few = h
entry_of-within n first rest h within (suc m) few = within m 0 (omega arith)

entry_of-end : (first : ℕ) (rest : List ℕ) → entry_of first rest (length rest) ≡ end_of first rest
entry_of-end first rest =
    let e : 0 + length rest ≡ length rest = omega arith in
    ap (entry_of first rest) (sym e) ∙ sym (end_of-segment (entry_of first rest) 0 (length rest)) ∙ ap (end_of first) (sym (segment-whole first rest))

entry_of-total : (w : TotalRule) (first : ℕ) (rest : List ℕ) → prefix_total w (entry_of first rest) (length rest) ≡ total_after w w.empty first rest
entry_of-total w first rest =
    let e : 0 + length rest ≡ length rest = omega arith in
    ap (prefix_total w (entry_of first rest)) (sym e)
    ∙ sym (total_after-segment w (entry_of first rest) 0 (length rest))
    ∙ ap (total_after w w.empty first) (sym (segment-whole first rest))

-- no walk to s has a lesser total
abbrev IsLowest : TotalRule → ℕ → ExactTotal → Type 0
IsLowest w s y = (j : ℕ) (z : ExactTotal) → IsTotal w j s z → ¬ (IsLess z y)

-- some walk with fewer steps than observations has no greater total
abbrev HasShort : TotalRule → ℕ → ExactTotal → Type 0
HasShort w s y = (i : ℕ) × (z : ExactTotal) × (i < w.count) × IsTotal w i s z × (¬ (IsLess y z))

-- a least walk whose places repeat is no less than one without the part between
shortened : (w : TotalRule) (keeps : KeepsOrder w) (p : ℕ → ℕ) (a d e : ℕ) → ((m : ℕ) → m ≤ a + d + e → p m < w.count) → p a ≡ p (a + d) → IsLowest w (p (a + d + e)) (prefix_total w p (a + d + e)) → (z : ExactTotal) × IsTotal w (a + e) (p (a + d + e)) z × (¬ (IsLess (prefix_total w p (a + d + e)) z))
shortened w keeps p a d e within same lowest =
    let front = subst (λ n. IsTotal w a n (prefix_total w p a)) same (IsTotal-prefix w p a (λ m h. within m (omega arith))) in
    let rest = follow w keeps p (a + d + e) (a + d) e a (prefix_total w p a) within (omega arith) front in
    (rest.total, rest.is_total, rest.not_more refuted)
  where
    refuted : ¬ (IsLess (prefix_total w p (a + d)) (prefix_total w p a))
    refuted less =
        let long = subst (λ n. IsTotal w (a + d) n (prefix_total w p (a + d))) (sym same) (IsTotal-prefix w p (a + d) (λ m h. within m (omega arith))) in
        let rest = follow w keeps p (a + d + e) a (d + e) (a + d) (prefix_total w p (a + d)) within (omega arith) long in
        let n : a + (d + e) ≡ a + d + e = omega arith in
        lowest (a + d + (d + e)) rest.total (subst (λ m. IsTotal w (a + d + (d + e)) (p m) rest.total) n rest.is_total)
        (subst (λ m. IsLess rest.total (prefix_total w p m)) n (rest.less less))

HasShort-lowest : (w : TotalRule) (keeps : KeepsOrder w) (fuel j s : ℕ) (y : ExactTotal) → j < fuel → IsTotal w j s y → IsLowest w s y → HasShort w s y
HasShort-lowest w keeps zero j s y few reached lowest = absurd (omega arith)
HasShort-lowest w keeps (suc fuel) j s y few reached lowest =
    by_cases (cases_lt j w.count) (λ i z less r l. HasShort-lowest w keeps fuel i s z (omega arith) r l)
  where
    further : (i : ℕ) (z : ExactTotal) → ¬ (IsLess y z) → HasShort w s z → HasShort w s y
    further i z kept short = (short.0, short.1, short.2, short.3, not_more_trans short.1 z y short.4 kept)

    p : ℕ → ℕ
    p = entry_of reached.first reached.rest

    cut : (a d e : ℕ) → 0 < d → a + d + e ≡ j → p a ≡ p (a + d) → ((i : ℕ) (z : ExactTotal) → i < j → IsTotal w i s z → IsLowest w s z → HasShort w s z) → HasShort w s y
    cut a d e some whole same recurse =
        let steps : a + d + e ≡ length reached.rest = omega (arith, reached.steps) in
        let end : p (a + d + e) ≡ s = ap p steps ∙ entry_of-end reached.first reached.rest ∙ reached.ends in
        let total : prefix_total w p (a + d + e) ≡ y = ap (prefix_total w p) steps ∙ entry_of-total w reached.first reached.rest ∙ reached.total in
        let lowest_end = subst (λ n. IsLowest w n y) (sym end) lowest in
        let lowest_total = subst (λ (x : ExactTotal). IsLowest w (p (a + d + e)) x) (sym total) lowest_end in
        let part = shortened w keeps p a d e
        (λ m h. entry_of-within w.count reached.first reached.rest reached.walk.begins_within reached.walk.goes_within m (omega arith))
        same lowest_total in
        let part_to = subst (λ n. IsTotal w (a + e) n part.0) end part.1 in
        let kept = subst (λ (x : ExactTotal). ¬ (IsLess x part.0)) total part.2 in
        further (a + e) part.0 kept
        (recurse (a + e) part.0 (omega arith) part_to (λ i z r. not_more_trans part.0 y z kept (lowest i z r)))

    repeated : Repeats (reached.first ∷ reached.rest) → ((i : ℕ) (z : ExactTotal) → i < j → IsTotal w i s z → IsLowest w s z → HasShort w s z) → HasShort w s y
    repeated r recurse =
        cut r.0 r.1 (j - (r.0 + r.1)) r.2 (omega (arith, r.3, reached.steps)) r.4 recurse

    by_cases : (j < w.count) ⊎ (w.count ≤ j) → ((i : ℕ) (z : ExactTotal) → i < j → IsTotal w i s z → IsLowest w s z → HasShort w s z) → HasShort w s y
    by_cases (inl h) recurse = (j, y, h, reached, IsLess-irrefl y)
    by_cases (inr h) recurse =
        repeated (repeats w.count (reached.first ∷ reached.rest)
        (All-cons (λ x. x < w.count) reached.first reached.rest reached.walk.begins_within reached.walk.goes_within)
        (omega (arith, reached.steps))) recurse

-- where the last round made a total less, some observation has no least total over the walks of any length
pub no_least_totals : (w : TotalRule) (keeps : KeepsOrder w) (s : ℕ) → s < w.count → IsLive w w.count s → ¬ (HasLeastTotals w)
no_least_totals w keeps s hs (inl e) all = absurd (omega arith)
no_least_totals w keeps s hs (inr (x, y, hx, hy, less)) all =
    let l = all s hs in
    let r = l.1.reached in
    let lowest : IsLowest w s r.1 = λ j z reached. not_more_trans r.1 l.0 z (not_less-same l.0 r.1 (sym r.3)) (l.1.lowest j z reached) in
    let short = HasShort-lowest w keeps (suc r.0) r.0 s r.1 (omega arith) r.2 lowest in
    let q = hx.reached in
    let above = lowest q.0 q.1 q.3 in
    let not_y = hy.lowest short.0 short.1 (omega (arith, short.2)) short.3 in
    let a = not_more_trans r.1 q.1 x above (not_less-same x q.1 (sym q.4)) in
    let b = not_more_trans short.1 r.1 x short.4 a in
    not_more_trans y short.1 x not_y b less

-- a least total is that of a walk with fewer steps than there are observations
pub IsLeast-short : (w : TotalRule) (keeps : KeepsOrder w) (s : ℕ) (x : ExactTotal) → IsLeast w s x → (i : ℕ) × (z : ExactTotal) × (i < w.count) × IsTotal w i s z × SameTotal z x
IsLeast-short w keeps s x least =
    let r = least.reached in
    let lowest : IsLowest w s r.1 = λ j z reached. not_more_trans r.1 x z (not_less-same x r.1 (sym r.3)) (least.lowest j z reached) in
    let short = HasShort-lowest w keeps (suc r.0) r.0 s r.1 (omega arith) r.2 lowest in
    let above = not_more_trans short.1 r.1 x short.4 (not_less-same x r.1 (sym r.3)) in
    (short.0, short.1, short.2, short.3, same_not_less short.1 x (least.lowest short.0 short.1 short.3) above)
