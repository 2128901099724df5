-- Afriat's numbers are the same for all costs that are the same between the observations.
use Rattle.std.proofs.Common.{◌≡◌, ◌<◌, ◌↔◌, ℕ, List, subst, ap, sym, ◌∙◌}
use Rattle.std.specs.Prelude.{ℤ, pos, ◌+ℤ◌, ◌-ℤ◌, ◌*ℤ◌, ◌*◌, ◌≤ℤ◌}
use Rattle.rp_table.specs.OwnLevels.{level_scale, own_by_level}
use Rattle.rp_evidence.specs.Afriat.{IsAfriatModel, IsModelBy, IsOwnModel, allowed_by, in_scale, spent}
use Rattle.rp_evidence.specs.AfriatEvidence.{ProvesAfriat, ProvesOwnAfriat}
use Rattle.rp_evidence.specs.Preference.{AgreeBelow, StrictByLevels, WeakByLevels}
use Rattle.rp_evidence.specs.StandardNumbers.{AllowsHigherBy, AreOwnStandardNumbers, AreStandardBy, IsClassUtilityBy, IsMultiplierBy}
use Rattle.rp_evidence.specs.declared.afriat.AfriatPart.{AfriatPart}
use Rattle.rp_evidence.specs.declared.afriat.AfriatPart.TheVariants.{Model, NoModel, Wide}
use Rattle.rp_evidence.proofs.OwnLevels.{own_same, strict_by_levels_same, weak_by_levels_same}
use Rattle.rp_evidence.proofs.SameCosts.{agree_back, count_same, preference_violation_same, violation_same}

-- the same of what observations are held to
abbrev pub AgreeOwn : ℕ → (ℕ → ℕ) → (ℕ → ℕ) → Type 0
AgreeOwn n own own' = (s : ℕ) → s < n → own s ≡ own' s

-- ---- over costs and what observations are held to

allowed_same : (n : ℕ) (c d : ℕ → ℕ → ℕ) (own own' : ℕ → ℕ) (u : ℕ → ℤ) (m : ℕ → ℕ) → AgreeBelow n c d → AgreeOwn n own own' → (s t : ℕ) → s < n → t < n → allowed_by c own u m s t ≡ allowed_by d own' u m s t
allowed_same n c d own own' u m same held s t a b = λ i. u s +ℤ (pos (m s) *ℤ (pos (same s t a b i) -ℤ pos (held s a i)))

module _ (n : ℕ) (c d : ℕ → ℕ → ℕ) (own own' : ℕ → ℕ) (same : AgreeBelow n c d) (held : AgreeOwn n own own') where
  pub model_by_same : (u : ℕ → ℤ) (m : ℕ → ℕ) → IsModelBy n c own u m → IsModelBy n d own' u m
  model_by_same u m model = record {
    at_least_one = model.at_least_one;
    none_above = λ s t a b. subst (λ z. u t ≤ℤ z) (allowed_same n c d own own' u m same held s t a b) (model.none_above s t a b);
  }

  class_utility_there : (count : ℕ → ℕ) (u : ℕ → ℤ) (m : ℕ → ℕ) (class : ℕ) (x : ℤ) → IsClassUtilityBy n c own count u m class x → IsClassUtilityBy n d own' count u m class x
  class_utility_there count u m class x is = record {
    highest = is.highest;
    least = λ s t a b l e. subst (λ z. x ≤ℤ z) (allowed_same n c d own own' u m same held s t a b) (is.least s t a b l e);
    reached = λ h a l. let r = is.reached h a l in (r.0, r.1, r.2, r.3, r.4, r.5, r.6 ∙ allowed_same n c d own own' u m same held r.0 r.1 r.2 r.3);
  }

allows_there : (n : ℕ) (c d : ℕ → ℕ → ℕ) (own own' : ℕ → ℕ) → AgreeBelow n c d → AgreeOwn n own own' → (count : ℕ → ℕ) (u : ℕ → ℤ) (s j : ℕ) → s < n → AllowsHigherBy n c own count u s j → AllowsHigherBy n d own' count u s j
allows_there n c d own own' same held count u s j in_s h t a l = subst (λ z. u t ≤ℤ z) (allowed_same n c d own own' u (λ i. j) same held s t in_s a) (h t a l)

module _ (n : ℕ) (c d : ℕ → ℕ → ℕ) (own own' : ℕ → ℕ) (same : AgreeBelow n c d) (held : AgreeOwn n own own') where
  multiplier_there : (count : ℕ → ℕ) (u : ℕ → ℤ) (s k : ℕ) → s < n → IsMultiplierBy n c own count u s k → IsMultiplierBy n d own' count u s k
  multiplier_there count u s k in_s is = record {
    at_least_one = is.at_least_one;
    enough = allows_there n c d own own' same held count u s k in_s is.enough;
    least = λ j a h. is.least j a (allows_there n d c own' own (agree_back n c d same) (λ s a. sym (held s a)) count u s j in_s h);
  }

  pub standard_by_same : (weak weak' : ℕ → ℕ → Type 0) → ((s t : ℕ) → s < n → t < n → weak s t ↔ weak' s t) → (count : ℕ → ℕ) (u : ℕ → ℤ) (m : ℕ → ℕ) → AreStandardBy n weak c own count u m → AreStandardBy n weak' d own' count u m
  standard_by_same weak weak' weak_is count u m are = record {
    counts = λ s a. count_same n weak weak' weak_is s (count s) (are.counts s a);
    each = λ t a. record {
      utility_is = class_utility_there n c d own own' same held count u m (count t) (u t) (are.each t a).utility_is;
      multiplier_is = multiplier_there count u t (m t) a (are.each t a).multiplier_is;
    };
  }

-- ---- at the level 1

module _ (n : ℕ) (c d : ℕ → ℕ → ℕ) (same : AgreeBelow n c d) where
  pub model_same : (u : ℕ → ℤ) (m : ℕ → ℕ) → IsAfriatModel n c u m → IsAfriatModel n d u m
  model_same = model_by_same n c d (spent c) (spent d) same (λ s a. same s s a a)

pub afriat_same : (n : ℕ) (c d : ℕ → ℕ → ℕ) (part : AfriatPart) → AgreeBelow n c d → ProvesAfriat n c part → ProvesAfriat n d part
afriat_same n c d (Model numbers) same p = (p.0, model_same n c d same _ _ p.1)
afriat_same n c d (NoModel walk) same p = violation_same n c d 1 1 same walk p
afriat_same n c d (Wide at) same p = tt

-- ---- by levels of the observations' own

module _ (n : ℕ) (levels : List ℕ) (c d : ℕ → ℕ → ℕ) (same : AgreeBelow n c d) where
  scaled_same : AgreeBelow n (in_scale (level_scale levels) c) (in_scale (level_scale levels) d)
  scaled_same s t a b = ap (λ x. level_scale levels * x) (same s t a b)

  pub own_model_same : (u : ℕ → ℤ) (m : ℕ → ℕ) → IsOwnModel n levels c u m → IsOwnModel n levels d u m
  own_model_same =
      model_by_same n (in_scale (level_scale levels) c) (in_scale (level_scale levels) d) (own_by_level levels c) (own_by_level levels d) scaled_same (own_same n levels c d same)

  pub own_standard_same : (count : ℕ → ℕ) (u : ℕ → ℤ) (m : ℕ → ℕ) → AreOwnStandardNumbers n levels c count u m → AreOwnStandardNumbers n levels d count u m
  own_standard_same =
      standard_by_same n (in_scale (level_scale levels) c) (in_scale (level_scale levels) d) (own_by_level levels c) (own_by_level levels d) scaled_same (own_same n levels c d same)
      (WeakByLevels levels c) (WeakByLevels levels d) (weak_by_levels_same n levels c d same)

pub own_afriat_same : (n : ℕ) (levels : List ℕ) (c d : ℕ → ℕ → ℕ) (part : AfriatPart) → AgreeBelow n c d → ProvesOwnAfriat n levels c part → ProvesOwnAfriat n levels d part
own_afriat_same n levels c d (Model numbers) same p = (p.0, own_model_same n levels c d same _ _ p.1)
own_afriat_same n levels c d (NoModel walk) same p =
    preference_violation_same n (WeakByLevels levels c) (StrictByLevels levels c) (WeakByLevels levels d) (StrictByLevels levels d)
    (weak_by_levels_same n levels c d same) (strict_by_levels_same n levels c d same) walk p
own_afriat_same n levels c d (Wide at) same p = tt
