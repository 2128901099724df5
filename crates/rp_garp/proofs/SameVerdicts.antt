-- What is given for some costs is given for all that are the same between the observations; what is given where
-- observations have no levels is given at the level 1.
use Rattle.std.proofs.Common.{◌≡◌, ◌<◌, ◌↔◌, ℕ, List, [], Option, subst}
use Rattle.rp_evidence.specs.Garp.{ProvesGarp, ProvesOfPreference}
use Rattle.rp_evidence.specs.Preference.{AgreeBelow, IsStrict, IsWeak, StrictByLevels, WeakByLevels}
use Rattle.rp_evidence.specs.declared.garp.Garp.{Garp}
use Rattle.rp_evidence.proofs.OwnLevels.{garp_without_levels, strict_by_levels_same, strict_without_levels, weak_by_levels_same, weak_without_levels}
use Rattle.rp_evidence.proofs.SameCosts.{strict_same, weak_same}
use Rattle.rp_pref.proofs.SameVerdicts.{first_or_none_same, verdict_on_same}
use Rattle.rp_pref.specs.Violation.{IsVerdictOfPreference}
use Rattle.rp_garp.specs.Pairs.{Contradict, IsOwnPairs}
use Rattle.rp_garp.specs.GarpVerdict.{IsGarpVerdict, IsOwnGarpVerdict}

module _ (n : ℕ) (weak strict weak' strict' : ℕ → ℕ → Type 0) (weak_is : (s t : ℕ) → s < n → t < n → weak s t ↔ weak' s t) (strict_is : (s t : ℕ) → s < n → t < n → strict s t ↔ strict' s t) where
  contradict_same : (s t : ℕ) → s < n → t < n → Contradict weak strict s t ↔ Contradict weak' strict' s t
  contradict_same s t a b =
      let r = weak_is s t a b in
      let k = strict_is t s b a in
      (λ h. (r.0 h.0, k.0 h.1), λ h. (r.1 h.0, k.1 h.1))

-- ---- over costs that are the same

module _ (n : ℕ) (c d : ℕ → ℕ → ℕ) (same : AgreeBelow n c d) where
  pub garp_verdict_same : (verdict : Garp) → IsGarpVerdict n c verdict → IsGarpVerdict n d verdict
  garp_verdict_same =
      verdict_on_same n (IsWeak c) (IsStrict c) (IsWeak d) (IsStrict d) (weak_same n c d 1 1 same) (strict_same n c d 1 1 same)

  pub own_garp_verdict_same : (levels : List ℕ) (verdict : Garp) → IsOwnGarpVerdict n levels c verdict → IsOwnGarpVerdict n levels d verdict
  own_garp_verdict_same levels =
      verdict_on_same n (WeakByLevels levels c) (StrictByLevels levels c) (WeakByLevels levels d) (StrictByLevels levels d)
      (weak_by_levels_same n levels c d same) (strict_by_levels_same n levels c d same)

  pub own_pairs_same : (levels : List ℕ) (found : Option (ℕ × ℕ)) → IsOwnPairs n levels c found → IsOwnPairs n levels d found
  own_pairs_same levels =
      first_or_none_same n (Contradict (WeakByLevels levels c) (StrictByLevels levels c)) (Contradict (WeakByLevels levels d) (StrictByLevels levels d))
      (contradict_same n (WeakByLevels levels c) (StrictByLevels levels c) (WeakByLevels levels d) (StrictByLevels levels d)
      (weak_by_levels_same n levels c d same) (strict_by_levels_same n levels c d same))

-- ---- without levels

module _ (n : ℕ) (levels : List ℕ) (c : ℕ → ℕ → ℕ) (none : levels ≡ []) where
  pub proves_at_one : (verdict : Garp) → ProvesOfPreference n (WeakByLevels levels c) (StrictByLevels levels c) verdict → ProvesGarp n c verdict
  proves_at_one verdict proves =
      (garp_without_levels n c verdict).0 (subst (λ l. ProvesOfPreference n (WeakByLevels l c) (StrictByLevels l c) verdict) none proves)

  pub given_at_one : (verdict : Garp) → IsVerdictOfPreference n (WeakByLevels levels c) (StrictByLevels levels c) verdict → IsGarpVerdict n c verdict
  given_at_one verdict given =
      verdict_on_same n (WeakByLevels [] c) (StrictByLevels [] c) (IsWeak c) (IsStrict c)
      (λ s t a b. weak_without_levels c s t) (λ s t a b. strict_without_levels c s t)
      verdict (subst (λ l. IsVerdictOfPreference n (WeakByLevels l c) (StrictByLevels l c) verdict) none given)
