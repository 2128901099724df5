-- When a list of observations fails as a closed walk, and as a violation (this program's own order of clauses;
-- violations: Varian 1982).
use Rattle.std.specs.Prelude.{◌≡◌, ◌+◌, ◌-◌, ◌<◌, ℕ, List, [], ◌∷◌, length, slice_index}
use Rattle.rp_evidence.specs.Clauses.{Finding, Unless, InOrder, FirstUnless}
use Rattle.rp_evidence.specs.declared.failure.Reason.TheVariants.{Shape, Number, NotClosed, NotWeak, NoStrict}

-- The k-th step of a walk, from 0, stands in a relation.
abbrev pub AtStep : (ℕ → ℕ → Type 0) → List ℕ → ℕ → Type 0
AtStep step walk k = step (slice_index walk k) (slice_index walk (k + 1))

-- Each entry is an observation.
abbrev pub ObservationsFail : ℕ → List ℕ → Finding
ObservationsFail n walk = FirstUnless (length walk) (λ k. slice_index walk k < n) Number

-- A closed walk: two entries or more, each an observation, the last equal to the first.
abbrev pub ClosedWalkFails : ℕ → List ℕ → Finding
ClosedWalkFails n walk = InOrder (
    Unless (1 < length walk) Shape 0
    ∷ ObservationsFail n walk
    ∷ Unless (slice_index walk 0 ≡ slice_index walk (length walk - 1)) NotClosed 0
    ∷ [])

-- Each step is weak.
abbrev pub WeakStepsFail : (ℕ → ℕ → Type 0) → List ℕ → Finding
WeakStepsFail weak walk = FirstUnless (length walk - 1) (AtStep weak walk) NotWeak

-- Some step is strict.
abbrev pub StrictStepFails : (ℕ → ℕ → Type 0) → List ℕ → Finding
StrictStepFails strict walk = Unless ((k : ℕ) × (k < length walk - 1) × AtStep strict walk k) NoStrict 0

-- A violation by a preference.
abbrev pub ViolationFails : ℕ → (ℕ → ℕ → Type 0) → (ℕ → ℕ → Type 0) → List ℕ → Finding
ViolationFails n weak strict walk = InOrder (
    ClosedWalkFails n walk ∷ WeakStepsFail weak walk ∷ StrictStepFails strict walk ∷ [])
