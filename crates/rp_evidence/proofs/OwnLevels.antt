-- Observations that are held to levels of their own, or to none.
use Rattle.std.proofs.Common.{◌≡◌, ◌<◌, ◌≤◌, ◌*◌, ◌↔◌, ℕ, List, [], ◌∷◌, arith, ap, slice_index, subst}
use Rattle.rp_table.specs.OwnLevels.{level_scale, own_by_level}
use Rattle.rp_evidence.specs.Garp.{ProvesGarp, ProvesOfPreference}
use Rattle.rp_evidence.specs.Preference.{AgreeBelow, IsStrict, IsWeak, StrictByLevels, WeakByLevels}
use Rattle.rp_evidence.specs.declared.garp.Garp.{Garp}
use Rattle.rp_evidence.proofs.SameCosts.{agree_back, proves_of_preference_same}

-- ---- without levels: the level 1

pub weak_without_levels : (c : ℕ → ℕ → ℕ) (s t : ℕ) → WeakByLevels [] c s t ↔ IsWeak c s t
weak_without_levels c s t = (λ h. omega (arith, h), λ h. omega (arith, h))

pub strict_without_levels : (c : ℕ → ℕ → ℕ) (s t : ℕ) → StrictByLevels [] c s t ↔ IsStrict c s t
strict_without_levels c s t = (λ h. omega (arith, h), λ h. omega (arith, h))

back : {A B : Type 0} → A ↔ B → B ↔ A
back h = (h.1, h.0)

pub garp_without_levels : (n : ℕ) (c : ℕ → ℕ → ℕ) (verdict : Garp)
    → ProvesOfPreference n (WeakByLevels [] c) (StrictByLevels [] c) verdict ↔ ProvesGarp n c verdict
garp_without_levels n c verdict = (
  proves_of_preference_same n (WeakByLevels [] c) (StrictByLevels [] c) (IsWeak c) (IsStrict c)
      (λ s t a b. weak_without_levels c s t) (λ s t a b. strict_without_levels c s t) verdict,
  proves_of_preference_same n (IsWeak c) (IsStrict c) (WeakByLevels [] c) (StrictByLevels [] c)
      (λ s t a b. back (weak_without_levels c s t)) (λ s t a b. back (strict_without_levels c s t)) verdict,
)

-- ---- the same levels over costs that are the same between the observations

pub own_same : (n : ℕ) (levels : List ℕ) (c d : ℕ → ℕ → ℕ) → AgreeBelow n c d → (s : ℕ) → s < n
    → own_by_level levels c s ≡ own_by_level levels d s
own_same n [] c d same s a = same s s a a
own_same n (level ∷ levels) c d same s a = ap (λ x. slice_index (level ∷ levels) s * x) (same s s a a)

module _ (n : ℕ) (levels : List ℕ) (c d : ℕ → ℕ → ℕ) (same : AgreeBelow n c d) where
  weak_there : (s t : ℕ) → s < n → t < n → WeakByLevels levels c s t → WeakByLevels levels d s t
  weak_there s t a b h =
      subst (λ y. level_scale levels * d s t ≤ y) (own_same n levels c d same s a) (subst (λ x. level_scale levels * x ≤ own_by_level levels c s) (same s t a b) h)

  strict_there : (s t : ℕ) → s < n → t < n → StrictByLevels levels c s t → StrictByLevels levels d s t
  strict_there s t a b h =
      subst (λ y. level_scale levels * d s t < y) (own_same n levels c d same s a) (subst (λ x. level_scale levels * x < own_by_level levels c s) (same s t a b) h)

module _ (n : ℕ) (levels : List ℕ) (c d : ℕ → ℕ → ℕ) (same : AgreeBelow n c d) where
  pub weak_by_levels_same : (s t : ℕ) → s < n → t < n → WeakByLevels levels c s t ↔ WeakByLevels levels d s t
  weak_by_levels_same s t a b =
      (weak_there n levels c d same s t a b, weak_there n levels d c (agree_back n c d same) s t a b)

  pub strict_by_levels_same : (s t : ℕ) → s < n → t < n → StrictByLevels levels c s t ↔ StrictByLevels levels d s t
  strict_by_levels_same s t a b =
      (strict_there n levels c d same s t a b, strict_there n levels d c (agree_back n c d same) s t a b)

  pub own_garp_same : (verdict : Garp) → ProvesOfPreference n (WeakByLevels levels c) (StrictByLevels levels c) verdict
      → ProvesOfPreference n (WeakByLevels levels d) (StrictByLevels levels d) verdict
  own_garp_same =
      proves_of_preference_same n (WeakByLevels levels c) (StrictByLevels levels c) (WeakByLevels levels d) (StrictByLevels levels d) weak_by_levels_same strict_by_levels_same
