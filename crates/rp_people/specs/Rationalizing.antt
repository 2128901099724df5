-- When a preference or a utility rationalizes choices (Afriat 1967; Varian 1982, section 1).
use Rattle.std.specs.Prelude.{ℕ, ◌<◌, Bool}
use Rattle.rp_evidence.specs.Demand.{FractionBundle}
use Rattle.rp_people.specs.Bundles.{IsBundle}
use Rattle.rp_people.specs.Choices.{Choices, IsAffordable}
use Rattle.rp_people.specs.Fractions.{SignedFraction}
use Rattle.rp_people.specs.Preferences.{IsAtLeastAsGood, IsComplete, IsHomotheticPreference, IsNonsatiatedByValue}
use Rattle.rp_people.specs.Preferences.{IsNonsatiatedPreference, IsPreference, IsTransitive, shown_by}
use Rattle.rp_people.specs.Utilities.{IsConcaveUtility, IsHomogeneous, preference_of}

-- By the preference, the bundle that was chosen at s is the best of what s affords: at least as good as every bundle
-- that costs at most what the choice is held to.
abbrev pub IsBest : Choices → (FractionBundle → FractionBundle → Type 0) → ℕ → Type 0
IsBest choices prefers s = (x : FractionBundle) → IsBundle x → IsAffordable choices s x
    → IsAtLeastAsGood prefers (choices.bundle s) x

-- A preference rationalizes choices where each chosen bundle is the best of what the choice affords.
abbrev pub Rationalizes : Choices → (FractionBundle → FractionBundle → Type 0) → Type 0
Rationalizes choices prefers = (s : ℕ) → s < choices.n → IsBest choices prefers s

-- This preference is locally nonsatiated, and rationalizes the choices.
pub record Fits (choices : Choices) (prefers : FractionBundle → FractionBundle → Type 0) : Type 0 where
  pub preference : IsNonsatiatedPreference choices.goods prefers
  pub rationalizes : Rationalizes choices prefers

-- By this preference, if it is locally nonsatiated, not both of two choices are the best of what they afford.
abbrev pub HasNotBoth : Choices → (FractionBundle → FractionBundle → Type 0) → ℕ → ℕ → Type 0
HasNotBoth choices prefers s t = IsNonsatiatedPreference choices.goods prefers → IsBest choices prefers s
    → ¬ IsBest choices prefers t

-- Two choices contradict each other: by no locally nonsatiated preference are both the best of what they afford.
abbrev pub NoneHasBoth : Choices → ℕ → ℕ → Type 0
NoneHasBoth choices s t = (passes : FractionBundle → FractionBundle → (ℕ → ℕ) → Bool)
    → HasNotBoth choices (shown_by passes) s t

-- Some preference rationalizes the choices.
pub record HasPreference (choices : Choices) : Type 0 where
  pub passes : FractionBundle → FractionBundle → (ℕ → ℕ) → Bool
  pub preference : IsPreference choices.goods (shown_by passes)
  pub rationalizes : Rationalizes choices (shown_by passes)

-- Some locally nonsatiated preference does, whether or not it takes bundles that are equal in value for the same.
pub record HasNonsatiatedPreference (choices : Choices) : Type 0 where
  pub passes : FractionBundle → FractionBundle → (ℕ → ℕ) → Bool
  pub fits : Fits choices (shown_by passes)

-- The preference of some strictly monotone and concave utility rationalizes the choices.
pub record HasConcaveUtility (choices : Choices) : Type 0 where
  pub utility : FractionBundle → SignedFraction
  pub concave_utility : IsConcaveUtility choices.goods utility
  pub rationalizes : Rationalizes choices (preference_of utility)

-- Some homothetic preference rationalizes the choices.
pub record HasHomotheticPreference (choices : Choices) : Type 0 where
  pub passes : FractionBundle → FractionBundle → (ℕ → ℕ) → Bool
  pub preference : IsPreference choices.goods (shown_by passes)
  pub homothetic : IsHomotheticPreference (shown_by passes)
  pub rationalizes : Rationalizes choices (shown_by passes)

-- This homothetic preference rationalizes the choices, and is locally nonsatiated, and so by value: each that is
-- monotone, and each that takes bundles that are equal in value for the same, is.
pub record FitsHomothetically (choices : Choices) (prefers : FractionBundle → FractionBundle → Type 0) : Type 0 where
  pub complete : IsComplete prefers
  pub transitive : IsTransitive prefers
  pub nonsatiated : IsNonsatiatedByValue choices.goods prefers
  pub homothetic : IsHomotheticPreference prefers
  pub rationalizes : Rationalizes choices prefers

-- Some such preference does.
pub record HasNonsatiatedHomotheticPreference (choices : Choices) : Type 0 where
  pub passes : FractionBundle → FractionBundle → (ℕ → ℕ) → Bool
  pub fits : FitsHomothetically choices (shown_by passes)

-- The preference of some homogeneous, strictly monotone and concave utility rationalizes the choices.
pub record HasHomogeneousUtility (choices : Choices) : Type 0 where
  pub utility : FractionBundle → SignedFraction
  pub concave_utility : IsConcaveUtility choices.goods utility
  pub homogeneous : IsHomogeneous utility
  pub rationalizes : Rationalizes choices (preference_of utility)
