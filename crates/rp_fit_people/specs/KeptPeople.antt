-- What the kept observations say of people (Houtman and Maks 1985; Varian 1982, section 1).
use Rattle.std.specs.Prelude.{ℕ, ◌≤◌, Bool, List, Contains, length}
use Rattle.rp_evidence.specs.Demand.{FractionBundle}
use Rattle.rp_evidence.specs.Input.{TableInput}
use Rattle.rp_fit.specs.Kept.{IsSetOfObservations}
use Rattle.rp_people.specs.Fractions.{SignedFraction}
use Rattle.rp_people.specs.Preferences.{IsNonsatiatedPreference, shown_by}
use Rattle.rp_people.specs.Rationalizing.{IsBest}
use Rattle.rp_people.specs.TableChoices.{choices_at}
use Rattle.rp_people.specs.Utilities.{IsConcaveUtility, preference_of}

-- The preference rationalizes the observations of the set: by it the bundle of each is the best of what was spent there
-- affords. Nothing is asked of the other observations.
abbrev pub RationalizesKept : TableInput → (FractionBundle → FractionBundle → Type 0) → List ℕ → Type 0
RationalizesKept input prefers set = (s : ℕ) → Contains set s → IsBest (choices_at input 1 1) prefers s

-- This preference is locally nonsatiated, and rationalizes the observations of the set.
pub record FitsKept (input : TableInput) (prefers : FractionBundle → FractionBundle → Type 0) (set : List ℕ) : Type 0 where
  pub preference : IsNonsatiatedPreference input.goods prefers
  pub rationalizes : RationalizesKept input prefers set

-- The preference of some strictly monotone and concave utility rationalizes the observations of the set.
pub record HaveConcaveUtility (input : TableInput) (set : List ℕ) : Type 0 where
  pub utility : FractionBundle → SignedFraction
  pub concave_utility : IsConcaveUtility input.goods utility
  pub rationalizes : RationalizesKept input (preference_of utility) set

-- No locally nonsatiated preference rationalizes more than so many observations of the table.
abbrev pub NoneFitsMore : TableInput → ℕ → Type 0
NoneFitsMore input most = (passes : FractionBundle → FractionBundle → (ℕ → ℕ) → Bool) (set : List ℕ)
    → IsSetOfObservations input.n set → FitsKept input (shown_by passes) set → length set ≤ most
