-- Closed walks and violations by their steps pass by the places of their entries.
use Rattle.std.proofs.Common.{◌≡◌, ◌<◌, ◌-◌, ℕ, suc, List, [], ◌∷◌, length, Ok, arith, subst, sym, slice_index, add-one}
use Rattle.rp_clauses.specs.WalkFailure.{AtStep, ClosedWalkFails, ViolationFails, WeakStepsFail}
use Rattle.rp_evidence.specs.Garp.{IsViolation}
use Rattle.rp_evidence.specs.Walk.{IsClosedWalk, LeadsTo}
use Rattle.rp_evidence.proofs.Places.{below_at, ends_at, places_of_violation, step_at}

-- a closed walk and its steps
module _ (n : ℕ) (step : ℕ → ℕ → Type 0) where
  pub closed_passes : (walk : List ℕ) → IsClosedWalk n step walk → ClosedWalkFails n walk (Ok tt)
  closed_passes [] (s, leads, some) = absurd leads
  closed_passes (x ∷ w) (s, (is, leads), some) =
      let p : length w ≡ suc (length w) - 1 = omega arith in
      let back : LeadsTo n step x x w = subst (λ t. LeadsTo n step x t w) (sym is) leads in (
        some,
        (
          (λ k within. below_at n step x x w back k within),
          (subst (λ k. x ≡ slice_index (x ∷ w) k) p (sym (ends_at n step x x w back)), tt),
        ),
      )

  pub steps_pass : (walk : List ℕ) → IsClosedWalk n step walk → (k : ℕ) → k < length walk - 1 → AtStep step walk k
  steps_pass [] (s, leads, some) k within = absurd leads
  steps_pass (x ∷ w) (s, (is, leads), some) k within = rw add-one (step_at n step x s w leads k (omega arith))

module _ (n : ℕ) (weak : ℕ → ℕ → Type 0) where
  pub weak_passes : (walk : List ℕ) → IsClosedWalk n weak walk → WeakStepsFail weak walk (Ok tt)
  weak_passes walk closed k within = steps_pass n weak walk closed k within

  pub violation_passes : (strict : ℕ → ℕ → Type 0) (walk : List ℕ) → IsViolation n weak strict walk → ViolationFails n weak strict walk (Ok tt)
  violation_passes strict walk violation =
      let one = (places_of_violation n weak strict walk violation).one_strict in (
        closed_passes n weak walk violation.0,
        (weak_passes walk violation.0, ((one.0, omega (arith, one.1), one.2), tt)),
      )
