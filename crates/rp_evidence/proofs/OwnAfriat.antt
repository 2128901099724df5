-- Afriat's theorem at the level 1 and where observations have levels of their own.
use Rattle.std.proofs.Common.{◌≡◌, ◌*◌, ◌<◌, ◌≤◌, ◌↔◌, ℕ, List, [], arith, subst, sym}
use Rattle.std.specs.Prelude.{ℤ, pos, ◌*ℤ◌, ◌≤ℤ◌}
use Rattle.rp_table.specs.OwnLevels.{level_scale, own_by_level}
use Rattle.rp_evidence.specs.Afriat.{IsAfriatModel, IsModelBy, IsOwnModel, IsOwnUtility, IsUtility, IsUtilityBy, in_scale, spent}
use Rattle.rp_evidence.specs.AfriatEvidence.{ProvesAfriat, ProvesOwnAfriat}
use Rattle.rp_evidence.specs.Garp.{HasNoViolation, IsViolation}
use Rattle.rp_evidence.specs.Preference.{IsStrict, IsWeak, StrictByLevels, WeakByLevels}
use Rattle.rp_evidence.specs.StandardNumbers.{AreOwnStandardNumbers, AreStandardNumbers, PassWidthFirstAt}
use Rattle.rp_evidence.specs.declared.afriat.AfriatPart.{AfriatPart}
use Rattle.rp_evidence.specs.declared.afriat.AfriatPart.TheVariants.{Model, NoModel, Wide}
use Rattle.rp_evidence.proofs.AfriatModels.{at_least_its_number, at_most_held_to, is_its_number}
use Rattle.rp_evidence.proofs.AfriatTheorem.{ComparesStrictly, ComparesWeakly, model_exists, passed_first_once, standard_exists, standard_is_one, standard_model}
use Rattle.rp_evidence.proofs.OwnLevels.{strict_without_levels, weak_without_levels}
use Rattle.rp_evidence.proofs.SameAfriat.{standard_by_same}
use Rattle.rp_evidence.proofs.SameCosts.{preference_violation_same}

-- ---- the comparisons of levels of the observations' own, and what follows

module _ (n : ℕ) (levels : List ℕ) (c : ℕ → ℕ → ℕ) where
  pub weak_by_own : ComparesWeakly (WeakByLevels levels c) (in_scale (level_scale levels) c) (own_by_level levels c)
  weak_by_own s t = (λ h. h, λ h. h)

  pub strict_by_own : ComparesStrictly (StrictByLevels levels c) (in_scale (level_scale levels) c) (own_by_level levels c)
  strict_by_own s t = (λ h. h, λ h. h)

  pub own_model_exists : HasNoViolation n (WeakByLevels levels c) (StrictByLevels levels c) → (u : ℕ → ℤ) × (m : ℕ → ℕ) × IsOwnModel n levels c u m
  own_model_exists =
      model_exists n (WeakByLevels levels c) (in_scale (level_scale levels) c) (own_by_level levels c) weak_by_own (StrictByLevels levels c) strict_by_own

  pub own_standard_exists : (count : ℕ → ℕ) × (u : ℕ → ℤ) × (m : ℕ → ℕ) × AreOwnStandardNumbers n levels c count u m
  own_standard_exists = standard_exists n (WeakByLevels levels c) (in_scale (level_scale levels) c) (own_by_level levels c) weak_by_own

  pub own_standard_is_one : (count other : ℕ → ℕ) (u v : ℕ → ℤ) (m k : ℕ → ℕ) → AreOwnStandardNumbers n levels c count u m → AreOwnStandardNumbers n levels c other v k → (s : ℕ) → s < n → (u s ≡ v s) × (m s ≡ k s)
  own_standard_is_one = standard_is_one n (WeakByLevels levels c) (in_scale (level_scale levels) c) (own_by_level levels c) weak_by_own

  pub own_standard_model : (count : ℕ → ℕ) (u : ℕ → ℤ) (m : ℕ → ℕ) → AreOwnStandardNumbers n levels c count u m → HasNoViolation n (WeakByLevels levels c) (StrictByLevels levels c) → IsOwnModel n levels c u m
  own_standard_model =
      standard_model n (WeakByLevels levels c) (in_scale (level_scale levels) c) (own_by_level levels c) weak_by_own (StrictByLevels levels c) strict_by_own

  pub own_passed_first_once : (count : ℕ → ℕ) (u : ℕ → ℤ) (m : ℕ → ℕ) → AreOwnStandardNumbers n levels c count u m → (s t : ℕ) → PassWidthFirstAt n count u m s → PassWidthFirstAt n count u m t → s ≡ t
  own_passed_first_once count = passed_first_once n (WeakByLevels levels c) (in_scale (level_scale levels) c) (own_by_level levels c) count

  pub own_at_least_its_number : (u : ℕ → ℤ) (m : ℕ → ℕ) (t : ℕ) (value : ℤ) → IsOwnModel n levels c u m → t < n → IsOwnUtility n levels c u m 1 (λ s. c s t) value → u t ≤ℤ value
  own_at_least_its_number u m t value model in_t = at_least_its_number n (in_scale (level_scale levels) c) (own_by_level levels c) u m model t in_t value

  pub own_is_its_number : (u : ℕ → ℤ) (m : ℕ → ℕ) (t : ℕ) → IsOwnModel n levels c u m → t < n → own_by_level levels c t ≡ level_scale levels * c t t → IsOwnUtility n levels c u m 1 (λ s. c s t) (u t)
  own_is_its_number u m t model in_t = is_its_number n (in_scale (level_scale levels) c) (own_by_level levels c) u m model t in_t

pub own_at_most_held_to : (n den t : ℕ) (levels : List ℕ) (c : ℕ → ℕ → ℕ) (u : ℕ → ℤ) (m cost : ℕ → ℕ) (value : ℤ) → t < n → level_scale levels * cost t ≤ den * own_by_level levels c t → IsOwnUtility n levels c u m den cost value → value ≤ℤ (pos den *ℤ u t)
own_at_most_held_to n den t levels c u m cost = at_most_held_to n den t (own_by_level levels c) u m (λ s. level_scale levels * cost s)

-- ---- without levels: the level 1. In the scale 1 a bundle costs what it costs

one_times : (x : ℕ) → 1 * x ≡ x
one_times x = omega arith

scale_one : (c : ℕ → ℕ → ℕ) → in_scale 1 c ≡ c
scale_one c = λ i s t. one_times (c s t) i

cost_once : (cost : ℕ → ℕ) → (λ (s : ℕ). 1 * cost s) ≡ cost
cost_once cost = λ i s. one_times (cost s) i

pub model_without_levels : (n : ℕ) (c : ℕ → ℕ → ℕ) (u : ℕ → ℤ) (m : ℕ → ℕ) → IsOwnModel n [] c u m ↔ IsAfriatModel n c u m
model_without_levels n c u m = (subst (λ d. IsModelBy n d (spent c) u m) (scale_one c), subst (λ d. IsModelBy n d (spent c) u m) (sym (scale_one c)))

pub standard_without_levels : (n : ℕ) (c : ℕ → ℕ → ℕ) (count : ℕ → ℕ) (u : ℕ → ℤ) (m : ℕ → ℕ) → AreOwnStandardNumbers n [] c count u m ↔ AreStandardNumbers n c count u m
standard_without_levels n c count u m = (
  standard_by_same n (in_scale 1 c) c (spent c) (spent c) (λ s t a b. one_times (c s t)) (λ s a. λ i. c s s)
      (WeakByLevels [] c) (IsWeak c) (λ s t a b. weak_without_levels c s t) count u m,
  standard_by_same n c (in_scale 1 c) (spent c) (spent c) (λ s t a b. sym (one_times (c s t))) (λ s a. λ i. c s s)
      (IsWeak c) (WeakByLevels [] c) (λ s t a b. let w = weak_without_levels c s t in (w.1, w.0)) count u m,
)

pub utility_without_levels : (n den : ℕ) (c : ℕ → ℕ → ℕ) (u : ℕ → ℤ) (m cost : ℕ → ℕ) (value : ℤ) → IsOwnUtility n [] c u m den cost value ↔ IsUtility n c u m den cost value
utility_without_levels n den c u m cost value =
    (subst (λ d. IsUtilityBy n (spent c) u m den d value) (cost_once cost), subst (λ d. IsUtilityBy n (spent c) u m den d value) (sym (cost_once cost)))

pub violation_there : (n : ℕ) (c : ℕ → ℕ → ℕ) (walk : List ℕ) → IsViolation n (WeakByLevels [] c) (StrictByLevels [] c) walk → IsViolation n (IsWeak c) (IsStrict c) walk
violation_there n c =
    preference_violation_same n (WeakByLevels [] c) (StrictByLevels [] c) (IsWeak c) (IsStrict c)
    (λ s t a b. weak_without_levels c s t) (λ s t a b. strict_without_levels c s t)

violation_back : (n : ℕ) (c : ℕ → ℕ → ℕ) (walk : List ℕ) → IsViolation n (IsWeak c) (IsStrict c) walk → IsViolation n (WeakByLevels [] c) (StrictByLevels [] c) walk
violation_back n c =
    preference_violation_same n (IsWeak c) (IsStrict c) (WeakByLevels [] c) (StrictByLevels [] c)
    (λ s t a b. let w = weak_without_levels c s t in (w.1, w.0)) (λ s t a b. let w = strict_without_levels c s t in (w.1, w.0))

pub evidence_without_levels : (n : ℕ) (c : ℕ → ℕ → ℕ) (part : AfriatPart) → ProvesOwnAfriat n [] c part ↔ ProvesAfriat n c part
evidence_without_levels n c (Model numbers) = let k = model_without_levels n c _ _ in (λ p. (p.0, k.0 p.1), λ p. (p.0, k.1 p.1))
evidence_without_levels n c (NoModel walk) = (violation_there n c walk, violation_back n c walk)
evidence_without_levels n c (Wide at) = (λ p. p, λ p. p)
