-- What the clauses of a violation find is whether there is one.
use Rattle.std.proofs.Common.{◌≡◌, ℕ, List, Result, Ok, Err, true, inl, inr, refl, arith}
use Rattle.std.specs.Prelude.{◌↔◌}
use Rattle.std.specs.Result.{is_ok}
use Rattle.std.proofs.lemmas.Bool.{false≢true}
use Rattle.rp_evidence.specs.Garp.{IsViolation, ViolatesByPlaces}
use Rattle.rp_evidence.specs.declared.failure.Failure.{Failure}
use Rattle.rp_evidence.proofs.Places.{places_of_violation, violates_by_places}
use Rattle.rp_clauses.specs.WalkFailure.{ClosedWalkFails, StrictStepFails, ViolationFails, WeakStepsFail}
use Rattle.rp_clauses.proofs.SoundTests.{by_places}

module _ (n : ℕ) (weak strict : ℕ → ℕ → Type 0) (walk : List ℕ) where
  not_closed : (e : Failure) → ViolatesByPlaces n weak strict walk → ¬ ClosedWalkFails n walk (Err e)
  not_closed e v (inl h) = h.0 v.has_step
  not_closed e v (inr (a, inl h)) = h.2.0 (v.observations h.0 h.1)
  not_closed e v (inr (a, inr (b, inl h))) = h.0 v.closed
  not_closed e v (inr (a, inr (b, inr (d, h)))) = h

  not_weak : (e : Failure) → ViolatesByPlaces n weak strict walk → ¬ WeakStepsFail weak walk (Err e)
  not_weak e v h = h.2.0 (v.steps h.0 (omega (arith, h.1)))

  not_strict : (e : Failure) → ViolatesByPlaces n weak strict walk → ¬ StrictStepFails strict walk (Err e)
  not_strict e v h = h.0 (v.one_strict.0, omega (arith, v.one_strict.1), v.one_strict.2)

  no_failure : (e : Failure) → ViolatesByPlaces n weak strict walk → ¬ ViolationFails n weak strict walk (Err e)
  no_failure e v (inl h) = not_closed e v h
  no_failure e v (inr (a, inl h)) = not_weak e v h
  no_failure e v (inr (a, inr (b, inl h))) = not_strict e v h
  no_failure e v (inr (a, inr (b, inr (d, h)))) = h

  pub violation_decided : (r : Result (Unit {0}) Failure) → ViolationFails n weak strict walk r → (is_ok r ≡ true) ↔ IsViolation n weak strict walk
  violation_decided (Ok done) found = (
    λ h. violates_by_places n weak strict walk (by_places n weak walk found.0 found.1.0 strict found.1.1.0),
    λ v. refl,
  )
  violation_decided (Err e) found = (λ h. absurd (false≢true h), λ v. absurd (no_failure e (places_of_violation n weak strict walk v) found))
