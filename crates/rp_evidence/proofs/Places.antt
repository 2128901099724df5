-- Walks by the places of their entries.
use Rattle.std.proofs.Common.{◌≡◌, ◌<◌, ◌-◌, ℕ, zero, suc, List, [], ◌∷◌, length, inl, inr, refl, sym, subst, arith, add-one, slice_index}
use Rattle.rp_evidence.specs.Garp.{IsViolation, ViolatesByPlaces}
use Rattle.rp_evidence.specs.Walk.{LeadsTo, HasStepFrom}
use Rattle.rp_evidence.proofs.Violations.{violates_by, violation_leads}
use Rattle.rp_evidence.proofs.Walks.{starts_below}

-- the last of an entry and those after it
abbrev last_of : ℕ → List ℕ → ℕ
last_of x w = slice_index (x ∷ w) (length w)

module _ (n : ℕ) (step : ℕ → ℕ → Type 0) where
  pub leads_by_places : (x : ℕ) (w : List ℕ) → ((k : ℕ) → k < suc (length w) → slice_index (x ∷ w) k < n) → ((k : ℕ) → k < length w → step (slice_index (x ∷ w) k) (slice_index (x ∷ w) (suc k))) → LeadsTo n step x (last_of x w) w
  leads_by_places x [] below steps = (below 0 (omega arith), refl)
  leads_by_places x (y ∷ w) below steps = (
    below 0 (omega arith),
    steps 0 (omega arith),
    leads_by_places y w (λ k l. below (suc k) (omega arith)) (λ k l. steps (suc k) (omega arith)),
  )

  pub below_at : (x t : ℕ) (w : List ℕ) → LeadsTo n step x t w → (k : ℕ) → k < suc (length w) → slice_index (x ∷ w) k < n
  below_at x t w h zero l = starts_below n step x t w h
  below_at x t [] h (suc k) l = absurd (omega arith)
  below_at x t (y ∷ w) h (suc k) l = below_at y t w h.2 k (omega arith)

  pub step_at : (x t : ℕ) (w : List ℕ) → LeadsTo n step x t w → (k : ℕ) → k < length w → step (slice_index (x ∷ w) k) (slice_index (x ∷ w) (suc k))
  step_at x t [] h k l = absurd (omega arith)
  step_at x t (y ∷ w) h zero l = h.1
  step_at x t (y ∷ w) h (suc k) l = step_at y t w h.2 k (omega arith)

  pub ends_at : (x t : ℕ) (w : List ℕ) → LeadsTo n step x t w → last_of x w ≡ t
  ends_at x t [] h = h.1
  ends_at x t (y ∷ w) h = ends_at y t w h.2

module _ (step : ℕ → ℕ → Type 0) where
  has_step_at : (x : ℕ) (w : List ℕ) (k : ℕ) → k < length w → step (slice_index (x ∷ w) k) (slice_index (x ∷ w) (suc k)) → HasStepFrom step x w
  has_step_at x [] k l h = absurd (omega arith)
  has_step_at x (y ∷ w) zero l h = inl h
  has_step_at x (y ∷ w) (suc k) l h = inr (has_step_at y w k (omega arith) h)

  place_of_step : (x : ℕ) (w : List ℕ) → HasStepFrom step x w → (k : ℕ) × (k < length w) × step (slice_index (x ∷ w) k) (slice_index (x ∷ w) (suc k))
  place_of_step x [] h = absurd h
  place_of_step x (y ∷ w) (inl h) = (0, omega arith, h)
  place_of_step x (y ∷ w) (inr h) = let r = place_of_step y w h in (suc r.0, omega (arith, r.1), r.2)

module _ (n : ℕ) (weak strict : ℕ → ℕ → Type 0) where
  pub violates_by_places : (walk : List ℕ) → ViolatesByPlaces n weak strict walk → IsViolation n weak strict walk
  violates_by_places [] v = absurd (omega (arith, v.has_step))
  violates_by_places (x ∷ []) v = absurd (omega (arith, v.has_step))
  violates_by_places (x ∷ y ∷ w) v =
      let l = leads_by_places n weak x (y ∷ w) v.observations (λ k l. rw add-one at (v.steps k (omega arith))) in
      let p : suc (suc (length w)) - 1 ≡ suc (length w) = omega arith in
      let e : last_of x (y ∷ w) ≡ x = sym (subst (λ k. x ≡ slice_index (x ∷ y ∷ w) k) p v.closed) in
      violates_by n weak strict x y w (subst (λ z. LeadsTo n weak x z (y ∷ w)) e l)
      (has_step_at strict x (y ∷ w) v.one_strict.0 (omega (arith, v.one_strict.1)) (rw add-one at v.one_strict.2))

  pub places_of_violation : (walk : List ℕ) → IsViolation n weak strict walk → ViolatesByPlaces n weak strict walk
  places_of_violation [] v = absurd v.1
  places_of_violation (x ∷ w) v =
      let q = violation_leads n weak strict x w v in
      let r = place_of_step strict x w q.1 in
      let p : length w ≡ suc (length w) - 1 = omega arith in
      record {
        has_step = v.0.2;
        observations = below_at n weak x x w q.0;
        closed = subst (λ k. x ≡ slice_index (x ∷ w) k) p (sym (ends_at n weak x x w q.0));
        steps = λ k l. rw add-one (step_at n weak x x w q.0 k (omega arith));
        one_strict = (r.0, omega (arith, r.1), rw add-one r.2);
      }
