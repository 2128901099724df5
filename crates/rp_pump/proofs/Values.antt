-- Least totals at a ratio bound the weak steps, and stay within their width.
use borrow.Author.Differences.{up, down}
use Rattle.std.proofs.Common.{◌+◌, ◌*◌, ◌^◌, subst, ◌≡◌, ℕ, ◌<◌, ◌≤◌, arith, refl, sym, ◌∙◌, List, [], ◌∷◌, length}
use Rattle.std.proofs.lemmas.Int.{ints}
use Rattle.std.proofs.Math.Nat.{mul-le-mul_right}
use Rattle.std.specs.Prelude.{ℤ, pos, ◌+ℤ◌, ◌≤ℤ◌}
use Rattle.rp_walk.specs.ExactTotal.{ExactTotal, SameTotal}
use Rattle.rp_walk.specs.Walk.{IsTotal}
use Rattle.rp_walk.specs.LeastTotals.{IsLeast}
use Rattle.rp_walk.specs.Sums.{sums, whole_total}
use Rattle.rp_walk.specs.InnerSums.{added_along}
use Rattle.rp_walk.proofs.Leads.{leads_to}
use Rattle.rp_walk.proofs.SumLaws.{sums_keep_order}
use Rattle.rp_walk.proofs.SumWalks.{sum_bound, sum_is, sum_lowest}
use Rattle.rp_walk.proofs.Unbounded.{IsLeast-short}
use Rattle.rp_evidence.specs.Preference.{IsWeak}
use Rattle.rp_evidence.specs.Walk.{AnyStep, IsWalk, LeadsTo}
use Rattle.rp_evidence.proofs.Walks.{leads_by_weaker}
use Rattle.rp_fit.specs.PumpTotals.{IsLeastPumpTotal, excess, walk_total}
use Rattle.rp_fit.specs.PumpEvidence.{FitsPumpValue}
use Rattle.rp_pump.specs.InnerTotal.{added}
use Rattle.rp_pump.proofs.Totals.{IsSmall, added_other, along_above, along_weak, bound, low_is_weak, other_weak}

module _ (n : ℕ) (c : ℕ → ℕ → ℕ) (num den : ℕ) (small : (s t : ℕ) → IsSmall (added c num den s t)) (few : n * bound < 2 ^ 121) where
  short : (s : ℕ) (z : ℤ) → IsLeast (sums n (added c num den)) s (whole_total z) → (i : ℕ) × (y : ExactTotal) × (i < n) × IsTotal (sums n (added c num den)) i s y × SameTotal y (whole_total z)
  short s z least = IsLeast-short (sums n (added c num den)) (sums_keep_order n (added c num den)) s (whole_total z) least

  at_most_zero : (s : ℕ) (z : ℤ) → s < n → IsLeast (sums n (added c num den)) s (whole_total z) → z ≤ℤ pos 0
  at_most_zero s z hs least =
      sum_lowest n (added c num den) s z least s [] (record { begins_within = hs; goes_within = λ k d below. absurd (omega arith) }) refl

  rows : (m : ℕ) → m < n → m * bound < 2 ^ 121
  rows m l =
      let r = mul-le-mul_right {m = m} {n = n} bound (omega arith) in
      omega (arith, r, few)

  pub value_limits : (s : ℕ) (z : ℤ) → s < n → IsLeast (sums n (added c num den)) s (whole_total z) → FitsPumpValue z
  value_limits s z hs least =
      let r = short s z least in
      let t = r.3 in
      let e : added_along (added c num den) t.first t.rest ≡ z = sum_is n (added c num den) z r.1 t r.4 in
      let low = along_above n (added c num den) small t.first t.rest in
      let m : length t.rest * bound < 2 ^ 121 = rows (length t.rest) (omega (arith, t.steps, r.2)) in
      between z (length t.rest * bound) m (subst (λ v. down v ≤ up v + length t.rest * bound) e low) (at_most_zero s z hs least)
    where
      between : (z : ℤ) (m : ℕ) → m < 2 ^ 121 → down z ≤ up z + m → z ≤ℤ pos 0 → FitsPumpValue z
      between z m l low high = (omega (arith, ints), omega (arith, ints))

  pub least_pump_total : (s : ℕ) (z : ℤ) → s < n → IsLeast (sums n (added c num den)) s (whole_total z) → IsLeastPumpTotal n c num den s z
  least_pump_total s z hs least = record { reached = reached; lowest = λ t walk h. lowest t walk h }
    where
      reached : (t : ℕ) × (walk : List ℕ) × IsWalk n (IsWeak c) t s walk × (walk_total c num den walk ≡ z)
      reached =
          let r = short s z least in
          let t = r.3 in
          let e : added_along (added c num den) t.first t.rest ≡ z = sum_is n (added c num den) z r.1 t r.4 in
          let leads = low_is_weak n c num den small t.first t.rest t.walk.begins_within t.walk.goes_within (rows (length t.rest) (omega (arith, t.steps, r.2)))
          (subst (λ v. v ≤ℤ pos 0) (sym e) (at_most_zero s z hs least)) in
          let to_s = subst (λ x. LeadsTo n (IsWeak c) t.first x t.rest) t.ends leads in
          (t.first, t.first ∷ t.rest, (refl, to_s), sym (along_weak n c num den small t.first s t.rest to_s) ∙ e)

      lowest : (t : ℕ) (walk : List ℕ) → IsWalk n (IsWeak c) t s walk → z ≤ℤ walk_total c num den walk
      lowest t [] h = absurd h
      lowest t (x ∷ rest) h =
          let any = leads_by_weaker n (IsWeak c) AnyStep (λ i j hi hj weak. tt) x s rest h.1 in
          let way = leads_to (sums n (added c num den)) x s rest any in
          subst (λ v. z ≤ℤ v) (along_weak n c num den small x s rest h.1) (sum_lowest n (added c num den) s z least x rest way.0 way.1)

  pub step_bounds : (s t : ℕ) (zs zt : ℤ) → s < n → t < n → ¬ (s ≡ t) → IsWeak c s t → IsLeast (sums n (added c num den)) s (whole_total zs)
      → IsLeast (sums n (added c num den)) t (whole_total zt) → zt ≤ℤ (zs +ℤ excess c num den s t)
  step_bounds s t zs zt hs ht d weak at_s at_t =
      subst (λ k. zt ≤ℤ (zs +ℤ k)) (added_other c num den s t d ∙ other_weak c num den s t (omega (arith, weak)))
      (sum_bound n (added c num den) s t zs zt hs ht at_s at_t)
