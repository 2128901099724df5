-- Ranks that respect the kept observations show that they are consistent: along a walk within them the ranks never rise,
-- and fall at a strict step.
use Rattle.std.proofs.Common.{◌≡◌, ◌<◌, ◌≤◌, ℕ, suc, List, [], ◌∷◌, length, inl, inr, refl, sym, subst, ◌∙◌, arith, Contains, slice_index}
use Rattle.std.proofs.lemmas.List.{get_or_default}
use Rattle.rp_evidence.specs.Preference.{IsStrict, IsWeak}
use Rattle.rp_evidence.specs.Walk.{HasStepFrom, LeadsTo}
use Rattle.rp_evidence.proofs.Enumerations.{rises}
use Rattle.rp_evidence.proofs.Violations.{violation_leads}
use Rattle.rp_fit.specs.Kept.{IsConsistent, IsSetOfObservations, LiesWithin}
use Rattle.rp_fit.specs.RespectingRanks.{RespectKept}

-- ---- walks within a set

pub starts_within : (set : List ℕ) (s : ℕ) (w : List ℕ) → LiesWithin set (s ∷ w) → Contains set s
starts_within set s w within = within s (0, omega arith, refl)

pub goes_within : (set : List ℕ) (s : ℕ) (w : List ℕ) → LiesWithin set (s ∷ w) → LiesWithin set w
goes_within set s w within y there = within y (suc there.0, omega (arith, there.1), there.2)

-- ---- places in a rising list

open_place : (set : List ℕ) (s : ℕ) (there : Contains set s) → slice_index set there.0 ≡ s
open_place set s there = get_or_default set there.0 0 s there.1 ∙ there.2

module _ (n : ℕ) (set : List ℕ) (is_set : IsSetOfObservations n set) where
  one_place : (i j : ℕ) → i < length set → j < length set → slice_index set i ≡ slice_index set j → i ≡ j
  one_place i j i_in j_in e = omega (arith, not_before, not_after)
    where
      not_before : ¬ (i < j)
      not_before l = absurd (omega (arith, rises set is_set.rising i j l j_in, e))

      not_after : ¬ (j < i)
      not_after l = absurd (omega (arith, rises set is_set.rising j i l i_in, e))

module _ (n : ℕ) (c : ℕ → ℕ → ℕ) (kept ranks : List ℕ) (is_set : IsSetOfObservations n kept) (respect : RespectKept c kept ranks) where
  weak_step : (s x i k : ℕ) → i < length kept → k < length kept → slice_index kept i ≡ s → slice_index kept k ≡ x → IsWeak c s x → slice_index ranks k ≤ slice_index ranks i
  weak_step s x i k i_in k_in at_s at_x h =
      respect.weak_never_rises i k i_in k_in (subst (λ z. IsWeak c z (slice_index kept k)) (sym at_s) (subst (λ z. IsWeak c s z) (sym at_x) h))

  strict_step : (s x i k : ℕ) → i < length kept → k < length kept → slice_index kept i ≡ s → slice_index kept k ≡ x → IsStrict c s x → slice_index ranks k < slice_index ranks i
  strict_step s x i k i_in k_in at_s at_x h =
      respect.strict_falls i k i_in k_in (subst (λ z. IsStrict c z (slice_index kept k)) (sym at_s) (subst (λ z. IsStrict c s z) (sym at_x) h))

  never_rises : (s t : ℕ) (w : List ℕ) → LeadsTo n (IsWeak c) s t w → LiesWithin kept (s ∷ w) → (i j : ℕ) → i < length kept → j < length kept → slice_index kept i ≡ s → slice_index kept j ≡ t
      → slice_index ranks j ≤ slice_index ranks i
  never_rises s t [] h within i j i_in j_in at_s at_t =
      let e = one_place n kept is_set i j i_in j_in (at_s ∙ h.1 ∙ sym at_t) in
      subst (λ z. slice_index ranks z ≤ slice_index ranks i) e (omega arith)
  never_rises s t (x ∷ w) h within i j i_in j_in at_s at_t =
      let rest = goes_within kept s (x ∷ w) within in
      let there = starts_within kept x w rest in
      let a = weak_step s x i there.0 i_in there.1 at_s (open_place kept x there) h.1 in
      let b = never_rises x t w h.2 rest there.0 j there.1 j_in (open_place kept x there) at_t in
      omega (arith, a, b)

  falls : (s t : ℕ) (w : List ℕ) → LeadsTo n (IsWeak c) s t w → HasStepFrom (IsStrict c) s w → LiesWithin kept (s ∷ w) → (i j : ℕ) → i < length kept → j < length kept → slice_index kept i ≡ s → slice_index kept j ≡ t
      → slice_index ranks j < slice_index ranks i
  falls s t [] h k within i j i_in j_in at_s at_t = absurd k
  falls s t (x ∷ w) h (inl k) within i j i_in j_in at_s at_t =
      let rest = goes_within kept s (x ∷ w) within in
      let there = starts_within kept x w rest in
      let a = strict_step s x i there.0 i_in there.1 at_s (open_place kept x there) k in
      let b = never_rises x t w h.2 rest there.0 j there.1 j_in (open_place kept x there) at_t in
      omega (arith, a, b)
  falls s t (x ∷ w) h (inr k) within i j i_in j_in at_s at_t =
      let rest = goes_within kept s (x ∷ w) within in
      let there = starts_within kept x w rest in
      let a = weak_step s x i there.0 i_in there.1 at_s (open_place kept x there) h.1 in
      let b = falls x t w h.2 k rest there.0 j there.1 j_in (open_place kept x there) at_t in
      omega (arith, a, b)

  pub consistent_by_ranks : IsConsistent n c kept
  consistent_by_ranks [] within v = absurd v.1
  consistent_by_ranks (x ∷ w) within v =
      let q = violation_leads n (IsWeak c) (IsStrict c) x w v in
      let there = starts_within kept x w within in
      absurd (omega (arith, falls x x w q.0 q.1 within there.0 there.0 there.1 there.1 (open_place kept x there) (open_place kept x there)))
