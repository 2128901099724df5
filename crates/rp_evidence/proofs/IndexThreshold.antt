-- The efficiency index is the least greatest ratio over all closed walks.
use Rattle.std.proofs.Common.{◌≡◌, ◌<◌, ◌≤◌, ◌*◌, ◌↔◌, inl, inr, ℕ, List, [], ◌∷◌, refl, arith}
use Rattle.std.proofs.Math.Nat.{lt_of_mul-lt-mul_left, mul-lt-mul_of_pos_left}
use Rattle.rp_evidence.specs.Efficiency.{HasGreatestRatio, IsEfficiencyIndex, IsLeastGreatestRatio, IsRatio}
use Rattle.rp_evidence.specs.Preference.{IsWeakAt}
use Rattle.rp_evidence.specs.Walk.{IsClosedWalk, HasStep, HasStepFrom, LeadsTo}
use Rattle.rp_evidence.proofs.Index.{NoLowerCycle, closed_rises, index_at_most, index_by_cycle, index_is_one}
use Rattle.rp_evidence.proofs.IndexExists.{index_exists}
use Rattle.rp_evidence.proofs.Ratios.{greatest_ratio, greatest_within, ratio_same, ratio_then_less}
use Rattle.rp_evidence.proofs.Walks.{has_weaker_step, starts_below}

module _ (n : ℕ) (c : ℕ → ℕ → ℕ) (some : 1 ≤ n) (positive : (s t : ℕ) → s < n → t < n → 0 < c s t) where
  own : (s : ℕ) → s < n → 0 < c s s
  own s s_in = positive s s s_in s_in

  ratios_same : (a b num den : ℕ) (walk : List ℕ) → 0 < b → a * den ≡ num * b → IsClosedWalk n (IsWeakAt c num den) walk → HasStep (IsRatio c a b) walk → HasStep (IsRatio c num den) walk
  ratios_same a b num den [] pos same l h = absurd h
  ratios_same a b num den (x ∷ w) pos same l h =
      has_weaker_step n (IsWeakAt c num den) (IsRatio c a b) (IsRatio c num den) (λ s t s_in t_in e. ratio_same c a b num den s t pos same e) x l.0 w l.1.1 h

  -- the index has a closed walk of weak steps at it
  pub walk_at_index : (num den : ℕ) → IsEfficiencyIndex n c num den → (walk : List ℕ) × IsClosedWalk n (IsWeakAt c num den) walk
  walk_at_index num den index =
      let r = index_exists n c some positive in
      let same = index_is_one n r.0 r.1 num den c r.4 index in
      (r.2, closed_rises n r.0 r.1 num den c r.2 (omega (arith, r.4.level.0, r.4.level.1)) (omega (arith, same)) r.3)

  index_to_least : (num den : ℕ) → IsEfficiencyIndex n c num den → IsLeastGreatestRatio n c num den
  index_to_least num den index =
      let w = walk_at_index num den index in
      let g = greatest_ratio n c own (IsWeakAt c num den) w.0 w.1 in
      let within = greatest_within n c own (c g.0 g.1) (c g.0 g.0) num den w.0 w.1 g.4.one_equal in
      let least = index_at_most n num den (c g.0 g.1) (c g.0 g.0) c w.0 own index (own g.0 g.2) g.4.none_more in
      record {
        positive = omega (arith, index.level.0, index.level.1);
        reached = (w.0, record { none_more = w.1; one_equal = ratios_same (c g.0 g.1) (c g.0 g.0) num den w.0 (own g.0 g.2) (omega arith) w.1 g.4.one_equal });
        least = λ p q walk pos h. index_at_most n num den p q c walk own index pos h.none_more;
      }

  -- a greatest ratio is above 0
  above_zero : (num den : ℕ) (walk : List ℕ) → 0 < den → HasGreatestRatio n c num den walk → 0 < num
  above_zero num den [] pos h = absurd h.one_equal
  above_zero num den (x ∷ w) pos h = go x h.none_more.0 w h.none_more.1.1 h.one_equal
    where
      go : (s t : ℕ) (w : List ℕ) → LeadsTo n (IsWeakAt c num den) s t w → HasStepFrom (IsRatio c num den) s w → 0 < num
      go s t [] l h = absurd h
      go s t (y ∷ w) l (inl e) =
          let costs : den * 0 < den * c s y = mul-lt-mul_of_pos_left (positive s y l.0 (starts_below n (IsWeakAt c num den) y t w l.2)) pos in
          let some : c s s * 0 < c s s * num = omega (arith, e) in
          lt_of_mul-lt-mul_left (c s s) some
      go s t (y ∷ w) l (inr h) = go y t w l.2 h

  least_to_index : (num den : ℕ) → IsLeastGreatestRatio n c num den → IsEfficiencyIndex n c num den
  least_to_index num den h =
      let top = h.least 1 1 (0 ∷ 0 ∷ []) (omega arith) at_one in
      index_by_cycle n c own num den h.reached.0 (above_zero num den h.reached.0 h.positive h.reached.1, omega (arith, top)) h.reached.1.none_more none_lower
    where
      at_one : HasGreatestRatio n c 1 1 (0 ∷ 0 ∷ [])
      at_one = record {
        none_more = (0, (refl, (omega arith, omega arith, (omega arith, refl))), omega arith);
        one_equal = inl refl;
      }

      none_lower : NoLowerCycle n c num den
      none_lower u v u_in v_in less walk closed =
          let g = greatest_ratio n c own (IsWeakAt c (c u v) (c u u)) walk closed in
          let within = greatest_within n c own (c g.0 g.1) (c g.0 g.0) (c u v) (c u u) walk closed g.4.one_equal in
          let least = h.least (c g.0 g.1) (c g.0 g.0) walk (own g.0 g.2) g.4 in
          let less_still = ratio_then_less (c g.0 g.1) (c g.0 g.0) (c u v) (c u u) num den (own g.0 g.2) within less in
          absurd (omega arith)

  pub index_is_least : (num den : ℕ) → IsEfficiencyIndex n c num den ↔ IsLeastGreatestRatio n c num den
  index_is_least num den = (index_to_least num den, least_to_index num den)
