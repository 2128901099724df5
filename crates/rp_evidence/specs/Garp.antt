-- The generalized axiom of revealed preference (Varian 1982), at a level (after Afriat).
use Rattle.std.specs.Prelude.{◌≡◌, ◌<◌, ◌+◌, ◌-◌, ℕ, List, length, slice_index}
use Rattle.rp_evidence.specs.Preference.{IsStrict, IsStrictAt, IsWeak, IsWeakAt, StrictByLevels, WeakByLevels}
use Rattle.rp_evidence.specs.Ranks.{RespectPreference}
use Rattle.rp_evidence.specs.Walk.{IsClosedWalk, HasStep}
use Rattle.rp_evidence.specs.declared.garp.Garp.{Garp}
use Rattle.rp_evidence.specs.declared.garp.Garp.TheVariants.{Ranks, Cycle}

-- A violation: a closed walk of weak steps, of any length, of which at least one is strict.
abbrev pub IsViolation : ℕ → (ℕ → ℕ → Type 0) → (ℕ → ℕ → Type 0) → List ℕ → Type 0
IsViolation n weak strict walk = IsClosedWalk n weak walk × HasStep strict walk

-- The n observations have no violation: no list of observations, however long, is one.
abbrev pub HasNoViolation : ℕ → (ℕ → ℕ → Type 0) → (ℕ → ℕ → Type 0) → Type 0
HasNoViolation n weak strict = (walk : List ℕ) → ¬ IsViolation n weak strict walk

-- Some walk over the n observations, however long, is a violation.
abbrev pub HasSomeViolation : ℕ → (ℕ → ℕ → Type 0) → (ℕ → ℕ → Type 0) → Type 0
HasSomeViolation n weak strict = (walk : List ℕ) × IsViolation n weak strict walk

-- A violation by the preference at the level num/den.
abbrev pub IsViolationAt : ℕ → (ℕ → ℕ → ℕ) → ℕ → ℕ → List ℕ → Type 0
IsViolationAt n c num den walk = IsViolation n (IsWeakAt c num den) (IsStrictAt c num den) walk

-- The n observations meet the axiom at the level num/den.
abbrev pub MeetsGarpAt : ℕ → (ℕ → ℕ → ℕ) → ℕ → ℕ → Type 0
MeetsGarpAt n c num den = HasNoViolation n (IsWeakAt c num den) (IsStrictAt c num den)

-- The n observations meet the axiom.
abbrev pub MeetsGarp : ℕ → (ℕ → ℕ → ℕ) → Type 0
MeetsGarp n c = MeetsGarpAt n c 1 1

-- A violation by places: two entries or more, each an observation, the last equal to the first, a weak step from each
-- to the next, and one of these steps strict.
pub record ViolatesByPlaces (n : ℕ) (weak strict : ℕ → ℕ → Type 0) (walk : List ℕ) : Type 0 where
  pub has_step : 1 < length walk
  pub observations : (k : ℕ) → k < length walk → slice_index walk k < n
  pub closed : slice_index walk 0 ≡ slice_index walk (length walk - 1)
  pub steps : (k : ℕ) → k + 1 < length walk → weak (slice_index walk k) (slice_index walk (k + 1))
  pub one_strict : (k : ℕ) × (k + 1 < length walk) × strict (slice_index walk k) (slice_index walk (k + 1))

-- Ranks prove that a preference has no violation: it has none, and they respect it. A cycle proves that it has one.
abbrev pub ProvesOfPreference : ℕ → (ℕ → ℕ → Type 0) → (ℕ → ℕ → Type 0) → Garp → Type 0
ProvesOfPreference n weak strict (Ranks ranks) = RespectPreference n weak strict ranks × HasNoViolation n weak strict
ProvesOfPreference n weak strict (Cycle walk) = IsViolation n weak strict walk

-- The axiom where the observations have these levels, or none.
abbrev pub ProvesOwnGarp : ℕ → List ℕ → (ℕ → ℕ → ℕ) → Garp → Type 0
ProvesOwnGarp n levels c verdict = ProvesOfPreference n (WeakByLevels levels c) (StrictByLevels levels c) verdict

-- The generalized axiom is about the preference at the level 1 (Varian 1982).
abbrev pub ProvesGarp : ℕ → (ℕ → ℕ → ℕ) → Garp → Type 0
ProvesGarp n c verdict = ProvesOfPreference n (IsWeak c) (IsStrict c) verdict
