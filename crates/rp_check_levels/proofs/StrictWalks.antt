-- Closed walks of strict steps through no observation twice, by their places.
use Rattle.std.proofs.Common.{◌≡◌, ◌<◌, ◌+◌, ℕ, List, [], ◌∷◌, inl, arith, length, slice_index}
use Rattle.rp_evidence.specs.Garp.{ViolatesByPlaces}
use Rattle.rp_evidence.specs.Preference.{IsStrict}
use Rattle.rp_evidence.specs.Walk.{HasStep, IsClosedWalk}
use Rattle.rp_evidence.proofs.Places.{places_of_violation, violates_by_places}
use Rattle.rp_fit.specs.WeightedWalks.{IsSimpleStrictWalk}
use Rattle.rp_check_levels.specs.InnerWalks.{AreObserved, ClosesStrictly}
use Rattle.rp_check_walks.specs.Distinct.{ArePlacesDistinct}

has_step : (n : ℕ) (step : ℕ → ℕ → Type 0) (walk : List ℕ) → IsClosedWalk n step walk → HasStep step walk
has_step n step [] closed = absurd closed.1
has_step n step (x ∷ []) closed = absurd (omega (arith, closed.2))
has_step n step (x ∷ y ∷ w) closed = inl closed.1.1.1

module _ (n : ℕ) (c : ℕ → ℕ → ℕ) (walk : List ℕ) where
  pub simple_by_places : ClosesStrictly n c walk → ArePlacesDistinct walk → IsSimpleStrictWalk n c walk
  simple_by_places closes distinct = record {
    few = closes.few;
    closed = (violates_by_places n (IsStrict c) (IsStrict c) walk violates).0;
    distinct = distinct;
  }
    where
      violates : ViolatesByPlaces n (IsStrict c) (IsStrict c) walk
      violates = record {
        has_step = omega (arith, closes.some);
        observations = closes.observed;
        closed = closes.ends;
        steps = λ k l. closes.strict k (omega (arith, l));
        one_strict = (0, omega (arith, closes.some), closes.strict 0 (omega (arith, closes.some)));
      }

  pub places_of_simple : IsSimpleStrictWalk n c walk → ClosesStrictly n c walk
  places_of_simple simple =
      let v = places_of_violation n (IsStrict c) (IsStrict c) walk (simple.closed, has_step n (IsStrict c) walk simple.closed) in
      record {
        some = omega (arith, v.has_step);
        few = simple.few;
        observed = v.observations;
        strict = λ k l. v.steps k (omega (arith, l));
        ends = v.closed;
      }

  pub simple_is_observed : IsSimpleStrictWalk n c walk → AreObserved n walk
  simple_is_observed simple = (places_of_simple simple).observed

  pub simple_has_some : IsSimpleStrictWalk n c walk → 0 < length walk
  simple_has_some simple = omega (arith, (places_of_simple simple).some)
