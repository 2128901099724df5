-- Why the welfare bounds hold: utilities do not rise along weak steps, and price vectors are the bundles of the region.
use Rattle.std.proofs.Common.{◌≡◌, ◌<◌, ◌≤◌, ◌*◌, inl, inr, ℕ, ℤ, pos, ◌+ℤ◌, ◌-ℤ◌, ◌*ℤ◌, ◌≤ℤ◌, ◌<ℤ◌, List, [], ◌∷◌, ◌++◌, length, slice_index, refl, subst, ◌∙◌, arith}
use Rattle.std.proofs.lemmas.Int.{ints}
use Rattle.std.proofs.lemmas.Bool.{cases_lt}
use Rattle.std.proofs.lemmas.List.{get_or_default}
use Rattle.rp_farkas.specs.Best.{IsBestPrices}
use Rattle.rp_farkas.specs.EqualPair.{IsEqualPair}
use Rattle.rp_farkas.specs.Prices.{IsFeasiblePrices, column_times}
use Rattle.rp_farkas.proofs.Duality.{best_prices}
use Rattle.rp_farkas.proofs.Integers.{times_comm, times_mono}
use Rattle.rp_evidence.specs.Afriat.{IsAfriatModel, IsUtility}
use Rattle.rp_evidence.specs.Demand.{FractionBundle, spending}
use Rattle.rp_evidence.specs.Garp.{MeetsGarp}
use Rattle.rp_evidence.specs.Input.{TableInput}
use Rattle.rp_evidence.specs.Preference.{IsWeak, IsStrict}
use Rattle.rp_evidence.specs.Walk.{LeadsTo, IsWalk}
use Rattle.rp_evidence.specs.LeastCost.{least_cost_program}
use Rattle.rp_evidence.specs.Welfare.{EqualsOrReaches, IsInRegion, IsLowerWelfare, ListsReached}
use Rattle.rp_evidence.proofs.AfriatSums.{below, not_above}
use Rattle.rp_evidence.proofs.DemandBounds.{total_of_sum}
use Rattle.rp_evidence.proofs.Violations.{reach_and_strict}
use Rattle.rp_evidence.proofs.Walks.{ends_below, leads_on, starts_below}

module _ (n : ℕ) (c : ℕ → ℕ → ℕ) (utility : ℕ → ℤ) (multiplier : ℕ → ℕ) (model : IsAfriatModel n c utility multiplier) where
  -- what a weak step leads to has no greater number
  step_falls : (s t : ℕ) → s < n → t < n → IsWeak c s t → utility t ≤ℤ utility s
  step_falls s t a b h = not_above (utility s) (utility t) (multiplier s) (c s t) (c s s) (omega arith) (model.none_above s t a b)

  led_falls : (s t : ℕ) (w : List ℕ) → LeadsTo n (IsWeak c) s t w → utility t ≤ℤ utility s
  led_falls s t [] l = subst (λ z. utility z ≤ℤ utility s) l.1 (omega (arith, ints))
  led_falls s t (x ∷ w) l =
      let a = step_falls s x l.0 (starts_below n (IsWeak c) x t w l.2) l.1 in
      let b = led_falls x t w l.2 in
      omega (arith, ints, a, b)

  pub walk_falls : (s t : ℕ) (w : List ℕ) → IsWalk n (IsWeak c) s t w → utility t ≤ℤ utility s
  walk_falls s t [] l = absurd l
  walk_falls s t (x ∷ w) l = led_falls s t w (subst (λ z. LeadsTo n (IsWeak c) z t w) l.0 l.1)

-- a multiplier of at least 1 times a difference that is not negative
enough_from : (u v value : ℤ) (den m x y : ℕ) → 1 ≤ m → u ≤ℤ v → (pos den *ℤ v) ≤ℤ value
    → value ≤ℤ ((pos den *ℤ u) +ℤ (pos m *ℤ (pos x -ℤ pos y))) → y ≤ x
enough_from u v value den m x y some l h k =
    elim (cases_lt x y) [
      | inl less ↦
          let a : (pos den *ℤ u) ≤ℤ (pos den *ℤ v) = times_left den u v l in
          let b : value <ℤ (pos den *ℤ u) = below (pos den *ℤ u) value m x y some less k in
          absurd (omega (arith, ints, a, b, h))
      | inr enough ↦ enough
    ]
  where
    times_left : (k : ℕ) (a b : ℤ) → a ≤ℤ b → (pos k *ℤ a) ≤ℤ (pos k *ℤ b)
    times_left k a b l =
        let e = times_mono a b k l in
        let f = times_comm a (pos k) in
        let g = times_comm b (pos k) in
        omega (arith, ints, e, f, g)

module _ (input : TableInput) (utility : ℕ → ℤ) (multiplier : ℕ → ℕ) (model : IsAfriatModel input.n input.cost utility multiplier) where
  ends_in : (s t : ℕ) (w : List ℕ) → IsWalk input.n (IsWeak input.cost) s t w → t < input.n
  ends_in s t [] l = absurd l
  ends_in s t (x ∷ w) l = ends_below input.n (IsWeak input.cost) x t w l.1

  -- a bundle whose utility is at least that of t lies in the region of t
  pub as_well_off_in_region : (t : ℕ) (bundle : FractionBundle) (value : ℤ) → 0 < bundle.den
      → IsUtility input.n input.cost utility multiplier bundle.den (λ s. spending input.goods (input.price s) bundle.num) value
      → (pos bundle.den *ℤ utility t) ≤ℤ value → IsInRegion input t bundle
  as_well_off_in_region t bundle value some is high = record { fraction = some; dear = dear }
    where
      dear : (s : ℕ) → EqualsOrReaches input t s → bundle.den * input.cost s s ≤ spending input.goods (input.price s) bundle.num
      dear s r =
          let s_in = ends_in t s r.0 r.1 in
          enough_from (utility s) (utility t) value bundle.den (multiplier s) (spending input.goods (input.price s) bundle.num) (bundle.den * input.cost s s)
          (model.at_least_one s s_in) (walk_falls input.n input.cost utility multiplier model t s r.0 r.1) high (is.least s s_in)

  -- a bundle of the table that equals or reaches t has at least its utility
  pub reaching_is_as_well_off : (s t : ℕ) → EqualsOrReaches input s t → utility t ≤ℤ utility s
  reaching_is_as_well_off s t r = walk_falls input.n input.cost utility multiplier model s t r.0 r.1

-- ---- the least cost over the region is that of an equal pair

module _ (input : TableInput) (prices : ℕ → ℕ) (t : ℕ) (reached : List ℕ) (lists : ListsReached input t reached) where
  column_is : (j : ℕ) (x : ℕ → ℕ) → column_times (least_cost_program input prices reached) j x ≡ pos (spending input.goods (input.price (slice_index reached j)) x)
  column_is j x = total_of_sum input.goods (input.price (slice_index reached j)) x

  pub in_region : (den : ℕ) (x : ℕ → ℕ) → IsFeasiblePrices (least_cost_program input prices reached) den x → IsInRegion input t (record { den = den; num = x })
  in_region den x f = record { fraction = f.den_positive; dear = dear }
    where
      dear : (s : ℕ) → EqualsOrReaches input t s → den * input.cost s s ≤ spending input.goods (input.price s) x
      dear s r =
          let there = (lists.just_these s).1 (ends s r.0 r.1, r) in
          let at : slice_index reached there.0 ≡ s = get_or_default reached there.0 0 s there.1 ∙ there.2 in
          let h = rw (column_is there.0 x) at (f.columns_hold there.0 there.1) in
          subst (λ q. den * input.cost q q ≤ spending input.goods (input.price q) x) at (omega (arith, ints, h))
        where
          ends : (q : ℕ) (w : List ℕ) → IsWalk input.n (IsWeak input.cost) t q w → q < input.n
          ends q [] l = absurd l
          ends q (y ∷ w) l = ends_below input.n (IsWeak input.cost) y q w l.1

  -- a bundle of the region is a feasible price vector
  pub region_is_feasible : (bundle : FractionBundle) → IsInRegion input t bundle → IsFeasiblePrices (least_cost_program input prices reached) bundle.den bundle.num
  region_is_feasible bundle r = record { den_positive = r.fraction; columns_hold = columns }
    where
      columns : (j : ℕ) → j < length reached → (pos (input.cost (slice_index reached j) (slice_index reached j)) *ℤ pos bundle.den) ≤ℤ column_times (least_cost_program input prices reached) j bundle.num
      columns j l =
          let there = (lists.just_these (slice_index reached j)).0 (j, l, get_or_default reached j (slice_index reached j) 0 l) in
          let h = r.dear (slice_index reached j) there.1 in
          rw (column_is j bundle.num) (omega (arith, ints, h))

  pub pair_is_least : (den : ℕ) (y x : ℕ → ℕ) → IsEqualPair (least_cost_program input prices reached) den y x
      → IsLowerWelfare input prices t (spending input.goods prices x) den
  pair_is_least den y x pair = record {
    fraction = best.feasible.den_positive;
    none_less = λ bundle r.
        let h = best.no_lower bundle.den bundle.num (region_is_feasible bundle r) in
        let k = rw (total_of_sum input.goods prices x, total_of_sum input.goods prices bundle.num) at h in
        omega (arith, ints, k);
    reached = (record { den = den; num = x }, in_region den x best.feasible, refl);
  }
    where
      best : IsBestPrices (least_cost_program input prices reached) den x
      best = best_prices (least_cost_program input prices reached) den y x pair

-- ---- the lower bound is at most the upper one

pub reaching_in_region : (input : TableInput) (s t : ℕ) → MeetsGarp input.n input.cost → EqualsOrReaches input s t → IsInRegion input t (record { den = 1; num = input.quantity s })
reaching_in_region input s t sound from_s = record { fraction = omega arith; dear = dear }
  where
    joined : (r : ℕ) (v w : List ℕ) → IsWalk input.n (IsWeak input.cost) s t v → IsWalk input.n (IsWeak input.cost) t r w
        → (s < input.n) × (r < input.n) × ((walk : List ℕ) × IsWalk input.n (IsWeak input.cost) s r walk)
    joined r [] w k l = absurd k
    joined r (x ∷ v) [] k l = absurd l
    joined r (x ∷ v) (y ∷ w) k l =
        let a = subst (λ z. LeadsTo input.n (IsWeak input.cost) z t v) k.0 k.1 in
        let b = subst (λ z. LeadsTo input.n (IsWeak input.cost) z r w) l.0 l.1 in (
          starts_below input.n (IsWeak input.cost) s t v a,
          ends_below input.n (IsWeak input.cost) t r w b,
          (s ∷ (v ++ w), (refl, leads_on input.n (IsWeak input.cost) s t r v w a b)),
        )

    dear : (r : ℕ) → EqualsOrReaches input t r → 1 * input.cost r r ≤ spending input.goods (input.price r) (input.quantity s)
    dear r to_r =
        let j = joined r from_s.0 to_r.0 from_s.1 to_r.1 in
        let e = input.sums r s j.1 j.0 in
        elim (cases_lt (input.cost r s) (input.cost r r)) [
          | inl less ↦ absurd (sound (j.2.0 ++ s ∷ []) (reach_and_strict input.n (IsWeak input.cost) (IsStrict input.cost) s r j.2.0 j.2.1 (omega arith) (omega arith)))
          | inr enough ↦ omega (arith, e, enough)
        ]
