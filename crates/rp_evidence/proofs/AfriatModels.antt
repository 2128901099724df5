-- What follows from an Afriat model: no violation exists, and the utility at an observed bundle is its number.
use Rattle.std.proofs.Common.{◌≡◌, ℕ, ◌*◌, ◌<◌, ◌≤◌, List, [], ◌∷◌, inl, inr, refl, sym, subst, ◌∙◌, arith}
use Rattle.std.proofs.lemmas.Int.{ints}
use Rattle.std.specs.Prelude.{ℤ, pos, ◌+ℤ◌, ◌-ℤ◌, ◌*ℤ◌, ◌<ℤ◌, ◌≤ℤ◌}
use Rattle.rp_table.specs.OwnLevels.{level_scale, own_by_level}
use Rattle.rp_evidence.specs.Afriat.{IsAfriatModel, IsModelBy, IsOwnModel, IsUtility, IsUtilityBy, in_scale, spent}
use Rattle.rp_evidence.specs.Garp.{HasNoViolation, MeetsGarp}
use Rattle.rp_evidence.specs.Preference.{IsStrict, IsWeak, StrictByLevels, WeakByLevels}
use Rattle.rp_evidence.specs.Walk.{HasStepFrom, LeadsTo}
use Rattle.rp_evidence.proofs.AfriatSums.{allowed_at_itself, below, not_above, once}
use Rattle.rp_evidence.proofs.Walks.{starts_below}

module _ (n : ℕ) (weak strict : ℕ → ℕ → Type 0) (cost : ℕ → ℕ → ℕ) (own : ℕ → ℕ) (weak_is : (s t : ℕ) → weak s t → cost s t ≤ own s) (strict_is : (s t : ℕ) → strict s t → cost s t < own s)
    (utility : ℕ → ℤ) (multiplier : ℕ → ℕ) (model : IsModelBy n cost own utility multiplier) where
  never_rises : (s t : ℕ) (w : List ℕ) → LeadsTo n weak s t w → utility t ≤ℤ utility s
  never_rises s t [] h = subst (λ x. utility x ≤ℤ utility s) h.1 (omega (arith, ints))
  never_rises s t (x ∷ w) h =
      let a = never_rises x t w h.2 in
      let in_x = starts_below n weak x t w h.2 in
      let b = not_above (utility s) (utility x) (multiplier s) (cost s x) (own s) (weak_is s x h.1) (model.none_above s x h.0 in_x) in
      omega (arith, ints)

  falls : (s t : ℕ) (w : List ℕ) → LeadsTo n weak s t w → HasStepFrom strict s w → utility t <ℤ utility s
  falls s t [] h k = absurd k
  falls s t (x ∷ w) h (inl k) =
      let a = never_rises x t w h.2 in
      let in_x = starts_below n weak x t w h.2 in
      let b = below (utility s) (utility x) (multiplier s) (cost s x) (own s) (model.at_least_one s h.0) (strict_is s x k) (model.none_above s x h.0 in_x) in
      omega (arith, ints)
  falls s t (x ∷ w) h (inr k) =
      let a = falls x t w h.2 k in
      let in_x = starts_below n weak x t w h.2 in
      let b = not_above (utility s) (utility x) (multiplier s) (cost s x) (own s) (weak_is s x h.1) (model.none_above s x h.0 in_x) in
      omega (arith, ints)

  not_below_itself : (x : ℤ) → ¬ (x <ℤ x)
  not_below_itself x h = omega (arith, ints)

  pub model_has_no_violation : HasNoViolation n weak strict
  model_has_no_violation [] v = absurd v.1
  model_has_no_violation (x ∷ w) v =
      let l = subst (λ z. LeadsTo n weak x z w) (sym v.0.1.0) v.0.1.1 in
      not_below_itself (utility x) (falls x x w l v.1)

pub own_model_has_no_violation : (n : ℕ) (levels : List ℕ) (c : ℕ → ℕ → ℕ) (utility : ℕ → ℤ) (multiplier : ℕ → ℕ) → IsOwnModel n levels c utility multiplier → HasNoViolation n (WeakByLevels levels c) (StrictByLevels levels c)
own_model_has_no_violation n levels c =
    model_has_no_violation n (WeakByLevels levels c) (StrictByLevels levels c) (in_scale (level_scale levels) c) (own_by_level levels c) (λ s t h. h) (λ s t h. h)

pub model_meets_garp : (n : ℕ) (c : ℕ → ℕ → ℕ) (utility : ℕ → ℤ) (multiplier : ℕ → ℕ) → IsAfriatModel n c utility multiplier → MeetsGarp n c
model_meets_garp n c = model_has_no_violation n (IsWeak c) (IsStrict c) c (spent c) (λ s t h. omega (arith, h)) (λ s t h. omega (arith, h))

-- ---- the utility of a bundle that was bought, and of one that costs no more than an observation is held to

-- a value that is the least of some bounds is at most each of them: the utility at the bundle of t is at least U_t, and is
-- U_t where t is held to all that it spent
module _ (n : ℕ) (cost : ℕ → ℕ → ℕ) (own : ℕ → ℕ) (utility : ℕ → ℤ) (multiplier : ℕ → ℕ) (model : IsModelBy n cost own utility multiplier) (t : ℕ) (in_t : t < n) where
  pub at_least_its_number : (value : ℤ) → IsUtilityBy n own utility multiplier 1 (λ s. cost s t) value → utility t ≤ℤ value
  at_least_its_number value is =
      let s = is.reached.0 in
      subst (λ z. utility t ≤ℤ z) (sym (is.reached.2 ∙ once (utility s) (multiplier s) (cost s t) (own s))) (model.none_above s t is.reached.1 in_t)

  pub is_its_number : own t ≡ cost t t → IsUtilityBy n own utility multiplier 1 (λ s. cost s t) (utility t)
  is_its_number all = record {
    reached = (
      t,
      in_t,
      sym (once (utility t) (multiplier t) (cost t t) (own t) ∙ subst (λ x. utility t +ℤ (pos (multiplier t) *ℤ (pos (cost t t) -ℤ pos x)) ≡ utility t) (sym all) (allowed_at_itself (utility t) (multiplier t) (cost t t))),
    );
    least = λ s g. subst (λ z. utility t ≤ℤ z) (sym (once (utility s) (multiplier s) (cost s t) (own s))) (model.none_above s t g in_t);
  }

pub utility_at_observed : (n : ℕ) (c : ℕ → ℕ → ℕ) (utility : ℕ → ℤ) (multiplier : ℕ → ℕ) → IsAfriatModel n c utility multiplier → (t : ℕ) → t < n → IsUtility n c utility multiplier 1 (λ s. c s t) (utility t)
utility_at_observed n c utility multiplier model t in_t = is_its_number n c (spent c) utility multiplier model t in_t refl

-- what costs no more than den times what t is held to has at most den times the number of t
pub at_most_held_to : (n den t : ℕ) (own : ℕ → ℕ) (utility : ℕ → ℤ) (multiplier cost : ℕ → ℕ) (value : ℤ) → t < n → cost t ≤ den * own t → IsUtilityBy n own utility multiplier den cost value → value ≤ℤ (pos den *ℤ utility t)
at_most_held_to n den t own utility multiplier cost value in_t within is =
    not_above (pos den *ℤ utility t) value (multiplier t) (cost t) (den * own t) within (is.least t in_t)

pub utility_is_one : (n den : ℕ) (own : ℕ → ℕ) (utility : ℕ → ℤ) (multiplier cost : ℕ → ℕ) (x y : ℤ) → IsUtilityBy n own utility multiplier den cost x → IsUtilityBy n own utility multiplier den cost y → x ≡ y
utility_is_one n den own utility multiplier cost x y a b =
    both_at_most x y (subst (λ z. x ≤ℤ z) (sym b.reached.2) (a.least b.reached.0 b.reached.1)) (subst (λ z. y ≤ℤ z) (sym a.reached.2) (b.least a.reached.0 a.reached.1))
  where
    both_at_most : (x y : ℤ) → x ≤ℤ y → y ≤ℤ x → x ≡ y
    both_at_most x y a b = omega (arith, ints)
