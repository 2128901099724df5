-- Totals along one walk. What is least at its end may be followed on from any other walk to a place of it, so a walk
-- that is less than all shorter ones has no closed part that could be left out.
use Rattle.std.proofs.Common.{◌≡◌, ℕ, zero, suc, ◌+◌, ◌-◌, ◌<◌, ◌≤◌, arith, ◌⊎◌, inl, inr, sym, subst}
use Rattle.rp_walk.specs.ExactTotal.{ExactTotal, IsLess, SameTotal}
use Rattle.rp_walk.specs.Walk.{prefix_total, TotalRule, IsTotal, KeepsOrder}
use Rattle.rp_walk.specs.LeastTotals.{IsLessThanShorter, IsLeastWithin, IsLive}
use Rattle.rp_walk.proofs.Order.{not_more_less, not_more_trans, less_or_not, not_less-same, same_not_less, less_not_more}
use Rattle.rp_walk.proofs.Walks.{IsTotal-here, IsTotal-further}

pub after-not_less : (w : TotalRule) (keeps : KeepsOrder w) (x y : ExactTotal) (t s : ℕ) → t < w.count → s < w.count → ¬ (IsLess x y) → ¬ (IsLess (w.after x t s) (w.after y t s))
after-not_less w keeps x y t s ht hs h less = h ((keeps x y t s ht hs).1 less)

pub after-same : (w : TotalRule) (keeps : KeepsOrder w) (x y : ExactTotal) (t s : ℕ) → t < w.count → s < w.count → SameTotal x y → SameTotal (w.after x t s) (w.after y t s)
after-same w keeps x y t s ht hs h =
    same_not_less (w.after x t s) (w.after y t s)
    (after-not_less w keeps x y t s ht hs (not_less-same x y h))
    (after-not_less w keeps y x t s ht hs (not_less-same y x (sym h)))

-- two least totals are one number
pub same_least : (w : TotalRule) (k s : ℕ) (x y : ExactTotal) → IsLeastWithin w k s x → IsLeastWithin w k s y → SameTotal x y
same_least w k s x y hx hy = same_not_less x y (not_below x y hx hy) (not_below y x hy hx)
  where
    not_below : (a b : ExactTotal) → IsLeastWithin w k s a → IsLeastWithin w k s b → ¬ (IsLess a b)
    not_below a b ha hb less =
        let r = ha.reached in
        hb.lowest r.0 r.1 r.2 r.3 (not_more_less r.1 a b (not_less-same a r.1 (sym r.4)) less)

-- the same number is least
pub IsLeastWithin-same : (w : TotalRule) (k s : ℕ) (x y : ExactTotal) → IsLeastWithin w k s x → SameTotal x y → IsLeastWithin w k s y
IsLeastWithin-same w k s x y h e = record {
  reached = (
    h.reached.0,
    h.reached.1,
    h.reached.2,
    h.reached.3,
    same_not_less h.reached.1 y
        (not_more_trans y x h.reached.1 (not_less-same x y e) (not_less-same h.reached.1 x h.reached.4))
        (not_more_trans h.reached.1 x y (not_less-same x h.reached.1 (sym h.reached.4)) (not_less-same y x (sym e))),
  );
  lowest = λ j z few reached. not_more_trans y x z (not_less-same x y e) (h.lowest j z few reached);
}

pub IsTotal-prefix : (w : TotalRule) (p : ℕ → ℕ) (k : ℕ) → ((m : ℕ) → m ≤ k → p m < w.count) → IsTotal w k (p k) (prefix_total w p k)
IsTotal-prefix w p zero within = IsTotal-here w (p 0) (within 0 (omega arith))
IsTotal-prefix w p (suc k) within =
    IsTotal-further w k (p k) (p (suc k)) (prefix_total w p k)
    (IsTotal-prefix w p k (λ m h. within m (omega arith))) (within (suc k) (omega arith))

-- a walk to p b, followed along p for d further steps
pub record Follows (w : TotalRule) (p : ℕ → ℕ) (b d i : ℕ) (z : ExactTotal) : Type 0 where
  pub total : ExactTotal
  pub is_total : IsTotal w (i + d) (p (b + d)) total
  pub not_more : ¬ (IsLess (prefix_total w p b) z) → ¬ (IsLess (prefix_total w p (b + d)) total)
  pub less : IsLess z (prefix_total w p b) → IsLess total (prefix_total w p (b + d))

pub follow : (w : TotalRule) (keeps : KeepsOrder w) (p : ℕ → ℕ) (k b d i : ℕ) (z : ExactTotal) → ((m : ℕ) → m ≤ k → p m < w.count) → b + d ≤ k → IsTotal w i (p b) z → Follows w p b d i z
follow w keeps p k b zero i z within h reached =
    let e : b ≡ b + 0 = omega arith in
    let g : i ≡ i + 0 = omega arith in
    record {
      total = z;
      is_total = subst (λ n. IsTotal w n (p (b + 0)) z) g (subst (λ n. IsTotal w i (p n) z) e reached);
      not_more = subst (λ n. ¬ (IsLess (prefix_total w p b) z) → ¬ (IsLess (prefix_total w p n) z)) e (λ q. q);
      less = subst (λ n. IsLess z (prefix_total w p b) → IsLess z (prefix_total w p n)) e (λ q. q);
    }
follow w keeps p k b (suc d) i z within h reached =
    let shorter = follow w keeps p k b d i z within (omega arith) reached in
    let here = within (b + d) (omega arith) in
    let there : p (suc (b + d)) < w.count = within (suc (b + d)) (omega arith) in
    let e : suc (b + d) ≡ b + suc d = omega arith in
    let g : suc (i + d) ≡ i + suc d = omega arith in
    let longer = IsTotal-further w (i + d) (p (b + d)) (p (suc (b + d))) shorter.total shorter.is_total there in
    let next = w.after shorter.total (p (b + d)) (p (suc (b + d))) in
    record {
      total = next;
      is_total = subst (λ n. IsTotal w n (p (b + suc d)) next) g (subst (λ n. IsTotal w (suc (i + d)) (p n) next) e longer);
      not_more = subst (λ n. ¬ (IsLess (prefix_total w p b) z) → ¬ (IsLess (prefix_total w p n) next)) e
          (λ q. after-not_less w keeps (prefix_total w p (b + d)) shorter.total (p (b + d)) (p (suc (b + d))) here there (shorter.not_more q));
      less = subst (λ n. IsLess z (prefix_total w p b) → IsLess next (prefix_total w p n)) e
          (λ q. (keeps shorter.total (prefix_total w p (b + d)) (p (b + d)) (p (suc (b + d))) here there).0 (shorter.less q));
    }

-- a closed part of a walk whose total is less than that of every walk with fewer steps ends below its start
pub closed_part_below : (w : TotalRule) (keeps : KeepsOrder w) (p : ℕ → ℕ) (k a b : ℕ) → ((m : ℕ) → m ≤ k → p m < w.count) → IsLessThanShorter w k (p k) (prefix_total w p k) → a < b → b ≤ k → p a ≡ p b → IsLess (prefix_total w p b) (prefix_total w p a)
closed_part_below w keeps p k a b within shorter before below same =
    decided (less_or_not (prefix_total w p b) (prefix_total w p a))
  where
    refuted : ¬ (IsLess (prefix_total w p b) (prefix_total w p a)) → ⊥
    refuted kept =
        let front = subst (λ n. IsTotal w a n (prefix_total w p a)) same
        (IsTotal-prefix w p a (λ m h. within m (omega arith))) in
        let d : (d : ℕ) × (b + d ≡ k) = (k - b, omega arith) in
        let rest = follow w keeps p k b d.0 a (prefix_total w p a) within (omega arith) front in
        let reached : IsTotal w (a + d.0) (p k) rest.total = subst (λ n. IsTotal w (a + d.0) (p n) rest.total) d.1 rest.is_total in
        let no_more : ¬ (IsLess (prefix_total w p k) rest.total) = subst (λ n. ¬ (IsLess (prefix_total w p n) rest.total)) d.1 (rest.not_more kept) in
        no_more (shorter (a + d.0) rest.total (omega arith) reached)

    decided : IsLess (prefix_total w p b) (prefix_total w p a) ⊎ (¬ (IsLess (prefix_total w p b) (prefix_total w p a))) → IsLess (prefix_total w p b) (prefix_total w p a)
    decided (inl h) = h
    decided (inr kept) = absurd (refuted kept)

-- the least total at a round that made it less is less than that of every walk with fewer steps
pub live_less_shorter : (w : TotalRule) (k s : ℕ) (x : ExactTotal) → IsLeastWithin w k s x → IsLive w k s → IsLessThanShorter w k s x
live_less_shorter w k s x least (inl e) j y few reached = absurd (omega arith)
live_less_shorter w k s x least (inr (x', y', hx, hy, less)) j y few reached =
    let same = same_least w k s x x' least hx in
    less_not_more x y' y (not_more_less x x' y' (not_less-same x' x (sym same)) less)
    (hy.lowest j y (omega arith) reached)
