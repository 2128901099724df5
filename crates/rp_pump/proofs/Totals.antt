-- Totals along walks at a ratio: how far they go, and that no step that is not weak makes a total fall.
use borrow.Author.Differences.{up, down}
use mir.Syntax.{w128}
use Rattle.std.proofs.Common.{◌+◌, ◌*◌, ◌^◌, ap, subst, ◌≡◌, ℕ, suc, ◌<◌, ◌≤◌, arith, refl, sym, ◌∙◌, List, [], ◌∷◌, length, All, ◌⊎◌, inl, inr, if◌then◌else◌}
use Rattle.std.proofs.lemmas.Bool.{cases_eq, cases_lt, eq-eqb, ne_eqb, lt-ltb, le-ltb}
use Rattle.std.proofs.lemmas.Int.{ints, by_lt_z}
use Rattle.std.proofs.lemmas.Nat.{mul-le}
use Rattle.std.proofs.Math.Nat.{mul-le-mul_right}
use Rattle.std.specs.Prelude.{ℤ, pos, negsuc, neg_ℤ, ◌+ℤ◌, ◌-ℤ◌, ◌*ℤ◌, ◌<ℤ◌, ◌≤ℤ◌, FitsSigned}
use Rattle.rp_walk.specs.ExactTotal.{ExactTotal, IsLess, SameTotal}
use Rattle.rp_walk.specs.Walk.{IsTotal, end_of, total_after}
use Rattle.rp_walk.specs.Outcome.{SettlesInWide}
use Rattle.rp_walk.specs.Sums.{FitsI128, sums, whole_total}
use Rattle.rp_walk.specs.InnerSums.{added_along}
use Rattle.rp_walk.proofs.Numbers.{parts_of_sum}
use Rattle.rp_walk.proofs.Order.{less_not_more, not_less-same}
use Rattle.rp_walk.proofs.Paths.{after-same}
use Rattle.rp_walk.proofs.Rounds.{SameTotal-trans}
use Rattle.rp_walk.proofs.SumWalks.{den_after, num_after}
use Rattle.rp_walk.proofs.SumLaws.{sums_fit_alike, sums_keep_order}
use Rattle.rp_walk.proofs.Walks.{IsTotal-here}
use Rattle.rp_evidence.specs.Preference.{IsWeak}
use Rattle.rp_evidence.specs.Walk.{LeadsTo}
use Rattle.rp_fit.specs.PumpTotals.{excess, step_total, total_from}
use Rattle.rp_pump.specs.InnerTotal.{added, other_added}

-- what a weak step takes away at most
abbrev pub bound : ℕ
bound = 2 ^ 111

-- ---- one step

module _ (c : ℕ → ℕ → ℕ) (num den : ℕ) where
  pub added_itself : (s t : ℕ) → s ≡ t → added c num den s t ≡ pos 0
  added_itself s t e = ap (λ b. if b then pos 0 else other_added c num den s t) (eq-eqb s t e)

  pub added_other : (s t : ℕ) → ¬ (s ≡ t) → added c num den s t ≡ other_added c num den s t
  added_other s t d = ap (λ b. if b then pos 0 else other_added c num den s t) (ne_eqb s t d)

  pub other_great : (s t : ℕ) → c s s < c s t → other_added c num den s t ≡ pos (2 ^ 121)
  other_great s t l = ap (λ b. if b then pos (2 ^ 121) else excess c num den s t) (lt-ltb (c s s) (c s t) l)

  pub other_weak : (s t : ℕ) → c s t ≤ c s s → other_added c num den s t ≡ excess c num den s t
  other_weak s t l = ap (λ b. if b then pos (2 ^ 121) else excess c num den s t) (le-ltb (c s s) (c s t) l)

  pub step_itself : (s t : ℕ) → s ≡ t → step_total c num den s t ≡ pos 0
  step_itself s t e = ap (λ b. if b then pos 0 else excess c num den s t) (eq-eqb s t e)

  pub step_other : (s t : ℕ) → ¬ (s ≡ t) → step_total c num den s t ≡ excess c num den s t
  step_other s t d = ap (λ b. if b then pos 0 else excess c num den s t) (ne_eqb s t d)

  -- a weak step adds what the definition says
  pub added_weak : (s t : ℕ) → c s t ≤ c s s → added c num den s t ≡ step_total c num den s t
  added_weak s t l = go (cases_eq s t)
    where
      go : (s ≡ t) ⊎ (¬ (s ≡ t)) → added c num den s t ≡ step_total c num den s t
      go (inl e) = added_itself s t e ∙ sym (step_itself s t e)
      go (inr d) = added_other s t d ∙ other_weak s t l ∙ sym (step_other s t d)

  pub added_great : (s t : ℕ) → c s s < c s t → added c num den s t ≡ pos (2 ^ 121)
  added_great s t l = go (cases_eq s t)
    where
      go : (s ≡ t) ⊎ (¬ (s ≡ t)) → added c num den s t ≡ pos (2 ^ 121)
      go (inl e) = absurd (omega (arith, subst (λ x. c s s < c s x) (sym e) l))
      go (inr d) = added_other s t d ∙ other_great s t l

-- a number between -2^111 and 2^121
abbrev pub IsSmall : ℤ → Type 0
IsSmall z = (neg_ℤ (pos bound) ≤ℤ z) × (z ≤ℤ pos (2 ^ 121))

excess_small : (a b num den : ℕ) → a < 2 ^ 51 → b ≤ a → num ≤ 2 ^ 60 → den ≤ 2 ^ 60 → IsSmall (pos (num * a) -ℤ ((pos a -ℤ pos b) *ℤ pos den))
excess_small a b num den ha hb hn hd =
    let far : num * a ≤ 2 ^ 111 = omega (arith, mul-le num a (2 ^ 60) (2 ^ 51) hn (omega arith)) in
    let near : a * den ≤ 2 ^ 111 = omega (arith, mul-le a den (2 ^ 51) (2 ^ 60) (omega arith) hd) in
    let less : b * den ≤ a * den = mul-le-mul_right {m = b} {n = a} den hb in
    let d : up (pos a -ℤ pos b) + b ≡ a + down (pos a -ℤ pos b) = omega (arith, ints) in
    let k = ap (λ n. n * den) d in
    (omega (arith, ints), omega (arith, ints))

pub added_small : (c : ℕ → ℕ → ℕ) (num den : ℕ) → ((i j : ℕ) → c i j < 2 ^ 51) → num ≤ 2 ^ 60 → den ≤ 2 ^ 60 → (s t : ℕ) → IsSmall (added c num den s t)
added_small c num den limit hn hd s t = go (cases_eq s t) (cases_lt (c s s) (c s t))
  where
    go : (s ≡ t) ⊎ (¬ (s ≡ t)) → (c s s < c s t) ⊎ (c s t ≤ c s s) → IsSmall (added c num den s t)
    go (inl e) any = subst IsSmall (sym (added_itself c num den s t e)) (omega (arith, ints), omega (arith, ints))
    go (inr d) (inl l) = subst IsSmall (sym (added_great c num den s t l)) (omega (arith, ints), omega (arith, ints))
    go (inr d) (inr l) =
        subst IsSmall (sym (added_other c num den s t d ∙ other_weak c num den s t l))
        (excess_small (c s s) (c s t) num den (limit s s) l hn hd)

-- ---- along a walk

one_more : (k z : ℤ) (m j b : ℕ) → j ≡ b + m → neg_ℤ (pos b) ≤ℤ k → down z ≤ up z + m → down (k +ℤ z) ≤ up (k +ℤ z) + j
one_more k z m j b is_j low low_z =
    let sum = parts_of_sum k z in
    omega (arith, ints)

module _ (n : ℕ) (a : ℕ → ℕ → ℤ) (small : (s t : ℕ) → IsSmall (a s t)) where
  pub along_above : (s : ℕ) (rest : List ℕ) → down (added_along a s rest) ≤ up (added_along a s rest) + length rest * bound
  along_above s [] = omega (arith, ints)
  along_above s (t ∷ rest) =
      one_more (a s t) (added_along a t rest) (length rest * bound) (suc (length rest) * bound) bound (omega arith) (small s t).0 (along_above t rest)

  -- the total of a walk is what its steps add
  pub total_is_sum : (k s : ℕ) (y : ExactTotal) (total : IsTotal (sums n a) k s y) → SameTotal y (whole_total (added_along a total.first total.rest))
  total_is_sum k s y total =
      subst (λ (x : ExactTotal). SameTotal x (whole_total (added_along a total.first total.rest))) total.total
      (same end.num (added_along a total.first total.rest) end.den (den_after n a (whole_total (pos 0)) total.first total.rest) (num_after n a (whole_total (pos 0)) total.first total.rest))
    where
      end : ExactTotal
      end = total_after (sums n a) (whole_total (pos 0)) total.first total.rest

      at_one : (v z : ℤ) → v ≡ pos 0 +ℤ (z *ℤ pos 1) → v *ℤ pos 1 ≡ z *ℤ pos 1
      at_one v z e = omega (arith, ints)

      same : (v z : ℤ) (d : ℕ) → d ≡ 1 → v ≡ pos 0 +ℤ (z *ℤ pos 1) → v *ℤ pos 1 ≡ z *ℤ pos d
      same v z d ed e = subst (λ m. v *ℤ pos 1 ≡ z *ℤ pos m) (sym ed) (at_one v z e)

  -- ---- no total is too wide

  fits_between : (z : ℤ) → neg_ℤ (pos (2 ^ 126)) ≤ℤ z → z ≤ℤ pos (2 ^ 126) → FitsSigned w128 z
  fits_between (pos k) low high = record { sfits = omega (arith, ints) }
  fits_between (negsuc k) low high = record { sfits = omega (arith, ints) }

  one_step_fits : (z k : ℤ) (m : ℕ) → m ≤ 2 ^ 121 → down z ≤ up z + m → z ≤ℤ pos 0 → IsSmall k → FitsSigned w128 (z +ℤ k)
  one_step_fits z k m few low high (low_k, high_k) = fits_between (z +ℤ k) (omega (arith, ints)) (omega (arith, ints))

  not_above : (z : ℤ) → ¬ (IsLess (whole_total (pos 0)) (whole_total z)) → z ≤ℤ pos 0
  not_above z h = go (by_lt_z (pos 0) z (λ p. inl p) (λ p. inr p))
    where
      less : (z : ℤ) → pos 0 <ℤ z → (pos 0 *ℤ pos 1) <ℤ (z *ℤ pos 1)
      less z p = omega (arith, ints)

      go : (pos 0 <ℤ z) ⊎ (z ≤ℤ pos 0) → z ≤ℤ pos 0
      go (inl p) = absurd (h (less z p))
      go (inr p) = p

  pub never_wide : n * bound ≤ 2 ^ 121 → (k t s : ℕ) → ¬ (SettlesInWide (sums n a) FitsI128 k t s)
  never_wide few k t s wide =
      let too = wide.first.too_wide in
      let x = too.not_fit in
      let r = x.1.reached in
      let walk = r.3 in
      let z = added_along a walk.first walk.rest in
      let same : SameTotal x.0 (whole_total z) = SameTotal-trans x.0 r.1 (whole_total z) (sym r.4) (total_is_sum r.0 t r.1 walk) in
      let steps = after-same (sums n a) (sums_keep_order n a) (whole_total z) x.0 t s too.from_within too.to_within (sym same) in
      let high : z ≤ℤ pos 0 = not_above z (λ less. x.1.lowest 0 (whole_total (pos 0)) (omega arith) (IsTotal-here (sums n a) t too.from_within) (less_not_more (whole_total (pos 0)) (whole_total z) x.0 less (not_less-same x.0 (whole_total z) same))) in
      let rows = mul-le-mul_right {m = length walk.rest} {n = n} bound (omega (arith, walk.steps, r.2, too.round_within)) in
      x.2 (sums_fit_alike ((sums n a).after (whole_total z) t s) ((sums n a).after x.0 t s) steps
      (z +ℤ a t s, one_step_fits z (a t s) (length walk.rest * bound) (omega (arith, rows, few)) (along_above walk.first walk.rest) high (small t s), same_step z (a t s)))
    where
      same_step : (z k : ℤ) → (z +ℤ (k *ℤ pos 1)) *ℤ pos 1 ≡ (z +ℤ k) *ℤ pos 1
      same_step z k = omega (arith, ints)

-- ---- a walk whose total stays low has weak steps alone

great_more : (k z : ℤ) (m j : ℕ) → j ≡ bound + m → neg_ℤ (pos bound) ≤ℤ k → pos (2 ^ 121) ≤ℤ (z +ℤ pos m) → pos (2 ^ 121) ≤ℤ ((k +ℤ z) +ℤ pos j)
great_more k z m j is_j low high = omega (arith, ints)

great_here : (k z : ℤ) (m j : ℕ) → j ≡ bound + m → k ≡ pos (2 ^ 121) → down z ≤ up z + m → pos (2 ^ 121) ≤ℤ ((k +ℤ z) +ℤ pos j)
great_here k z m j is_j is low = omega (arith, ints)

module _ (n : ℕ) (c : ℕ → ℕ → ℕ) (num den : ℕ) (small : (s t : ℕ) → IsSmall (added c num den s t)) where
  pub weak_or_great : (s : ℕ) (rest : List ℕ) → s < n → All (λ t. t < n) rest
      → LeadsTo n (IsWeak c) s (end_of s rest) rest ⊎ (pos (2 ^ 121) ≤ℤ (added_along (added c num den) s rest +ℤ pos (length rest * bound)))
  weak_or_great s [] hs within = inl (hs, refl)
  weak_or_great s (t ∷ rest) hs within =
      go (weak_or_great t rest (within 0 t (omega arith)) (λ k d below. within (suc k) d (omega arith))) (cases_lt (c s s) (c s t))
    where
      go : LeadsTo n (IsWeak c) t (end_of t rest) rest ⊎ (pos (2 ^ 121) ≤ℤ (added_along (added c num den) t rest +ℤ pos (length rest * bound)))
          → (c s s < c s t) ⊎ (c s t ≤ c s s)
          → LeadsTo n (IsWeak c) s (end_of t rest) (t ∷ rest) ⊎ (pos (2 ^ 121) ≤ℤ ((added c num den s t +ℤ added_along (added c num den) t rest) +ℤ pos (suc (length rest) * bound)))
      go (inl further) (inr l) = inl (hs, omega arith, further)
      go (inr great) (inr l) = inr (great_more (added c num den s t) (added_along (added c num den) t rest) (length rest * bound) (suc (length rest) * bound) (omega arith) (small s t).0 great)
      go any (inl l) = inr (great_here (added c num den s t) (added_along (added c num den) t rest) (length rest * bound) (suc (length rest) * bound) (omega arith) (added_great c num den s t l) (along_above n (added c num den) small t rest))

  -- weak steps add what the definition says
  pub along_weak : (s t : ℕ) (rest : List ℕ) → LeadsTo n (IsWeak c) s t rest → added_along (added c num den) s rest ≡ total_from c num den s rest
  along_weak s t [] h = refl
  along_weak s t (x ∷ rest) h =
      λ i. added_weak c num den s x (omega (arith, h.1)) i +ℤ along_weak x t rest h.2 i

not_great : (z : ℤ) (m : ℕ) → m < 2 ^ 121 → z ≤ℤ pos 0 → ¬ (pos (2 ^ 121) ≤ℤ (z +ℤ pos m))
not_great z m few high great = absurd (omega (arith, ints))

pub low_is_weak : (n : ℕ) (c : ℕ → ℕ → ℕ) (num den : ℕ) (small : (s t : ℕ) → IsSmall (added c num den s t)) (s : ℕ) (rest : List ℕ) → s < n → All (λ t. t < n) rest
    → length rest * bound < 2 ^ 121 → added_along (added c num den) s rest ≤ℤ pos 0 → LeadsTo n (IsWeak c) s (end_of s rest) rest
low_is_weak n c num den small s rest hs within few high = go (weak_or_great n c num den small s rest hs within)
  where
    go : LeadsTo n (IsWeak c) s (end_of s rest) rest ⊎ (pos (2 ^ 121) ≤ℤ (added_along (added c num den) s rest +ℤ pos (length rest * bound))) → LeadsTo n (IsWeak c) s (end_of s rest) rest
    go (inl leads) = leads
    go (inr great) = absurd (not_great (added_along (added c num den) s rest) (length rest * bound) few high great)
