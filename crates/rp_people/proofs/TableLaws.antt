-- The theorem on choices at the choices of a table: its costs are those of the bundles, so its steps are theirs.
use Rattle.std.proofs.Common.{◌≡◌, ℕ, ◌*◌, ◌<◌, ◌≤◌, ◌↔◌, List, [], ◌∷◌, ap, sym, subst, arith}
use Rattle.std.proofs.lemmas.Int.{ints}
use Rattle.std.specs.Prelude.{ℤ, pos, ◌+ℤ◌, ◌-ℤ◌, ◌*ℤ◌, ◌≤ℤ◌}
use Rattle.rp_table.specs.OwnLevels.{level_scale, own_by_level}
use Rattle.rp_table.specs.Spending.{spending}
use Rattle.rp_evidence.specs.Afriat.{IsModelBy, IsOwnModel, in_scale}
use Rattle.rp_evidence.specs.Demand.{FractionBundle}
use Rattle.rp_evidence.specs.Garp.{HasNoViolation, MeetsGarpAt}
use Rattle.rp_evidence.specs.Input.{TableInput}
use Rattle.rp_evidence.specs.Preference.{IsLevel, IsOwnStrict, IsOwnWeak, StrictByLevels, WeakByLevels}
use Rattle.rp_evidence.proofs.AfriatSums.{once}
use Rattle.rp_evidence.proofs.SameCosts.{no_violation_same}
use Rattle.rp_people.specs.AfriatUtility.{HaveUtility, IsModelOfChoices}
use Rattle.rp_people.specs.Choices.{AreChoices, Choices, IsStrictChoice, IsWeakChoice, MeetAxiom}
use Rattle.rp_people.specs.Preferences.{shown_by}
use Rattle.rp_people.specs.Rationalizing.{Fits, HasConcaveUtility, HasNonsatiatedPreference, HasNotBoth, HasPreference, NoneHasBoth}
use Rattle.rp_people.specs.TableChoices.{IsFullInput, choices_at, choices_held_to, choices_of}
use Rattle.rp_people.proofs.AfriatUtilities.{concave_utility_exists, have_utility}
use Rattle.rp_people.proofs.Chains.{has_not_both, meets_axiom}
use Rattle.rp_people.proofs.Orders.{nonsatiated_of_preference, preference_of_concave}

module _ (input : TableInput) (full : IsFullInput input) (scale : ℕ) (own : ℕ → ℕ) (some_scale : 1 ≤ scale) where
  pub are_choices : AreChoices (choices_held_to input scale own)
  are_choices = record {
    some = full.some;
    some_goods = full.some_goods;
    positive_prices = full.positive_prices;
    bundles = λ s l. omega arith;
    positive_scale = some_scale;
  }

  held_weak : (s t : ℕ) → s < input.n → t < input.n → IsOwnWeak scale own input.cost s t ↔ IsWeakChoice (choices_held_to input scale own) s t
  held_weak s t a b = let e = ap (λ v. scale * v) (input.sums s t a b) in (λ h. omega arith, λ h. omega arith)

  held_strict : (s t : ℕ) → s < input.n → t < input.n → IsOwnStrict scale own input.cost s t ↔ IsStrictChoice (choices_held_to input scale own) s t
  held_strict s t a b = let e = ap (λ v. scale * v) (input.sums s t a b) in (λ h. omega arith, λ h. omega arith)

  pub held_meets : HasNoViolation input.n (IsOwnWeak scale own input.cost) (IsOwnStrict scale own input.cost) ↔ MeetAxiom (choices_held_to input scale own)
  held_meets = (
    no_violation_same input.n (IsOwnWeak scale own input.cost) (IsOwnStrict scale own input.cost) (IsWeakChoice (choices_held_to input scale own)) (IsStrictChoice (choices_held_to input scale own)) held_weak held_strict,
    no_violation_same input.n (IsWeakChoice (choices_held_to input scale own)) (IsStrictChoice (choices_held_to input scale own)) (IsOwnWeak scale own input.cost) (IsOwnStrict scale own input.cost)
        (λ s t a b. let w = held_weak s t a b in (w.1, w.0)) (λ s t a b. let w = held_strict s t a b in (w.1, w.0)),
  )

  pub held_fits : (prefers : FractionBundle → FractionBundle → Type 0) → Fits (choices_held_to input scale own) prefers → HasNoViolation input.n (IsOwnWeak scale own input.cost) (IsOwnStrict scale own input.cost)
  held_fits prefers fits =
      held_meets.1 (meets_axiom (choices_held_to input scale own) are_choices.bundles prefers fits.preference fits.rationalizes)

  pub held_preferences : HasNonsatiatedPreference (choices_held_to input scale own) → HasNoViolation input.n (IsOwnWeak scale own input.cost) (IsOwnStrict scale own input.cost)
  held_preferences has = held_fits (shown_by has.passes) has.fits

  pub held_utility : HasNoViolation input.n (IsOwnWeak scale own input.cost) (IsOwnStrict scale own input.cost) → HasConcaveUtility (choices_held_to input scale own)
  held_utility none = concave_utility_exists (choices_held_to input scale own) are_choices (held_meets.0 none)

  pub held_model : (u : ℕ → ℤ) (m : ℕ → ℕ) → IsModelBy input.n (in_scale scale input.cost) own u m → IsModelOfChoices (choices_held_to input scale own) u m
  held_model u m model = record {
    at_least_one = model.at_least_one;
    none_above = λ s t a b.
        subst (λ v. v ≤ℤ ((pos 1 *ℤ u s) +ℤ (pos (m s) *ℤ (pos (scale * spending input.goods (input.price s) (input.quantity t)) -ℤ pos (1 * own s))))) (sym (alone (u t)))
        (subst (λ c. u t ≤ℤ ((pos 1 *ℤ u s) +ℤ (pos (m s) *ℤ (pos (scale * c) -ℤ pos (1 * own s))))) (input.sums s t a b)
        (subst (λ v. u t ≤ℤ v) (sym (once (u s) (m s) (scale * input.cost s t) (own s))) (model.none_above s t a b)));
  }
    where
      alone : (z : ℤ) → pos 1 *ℤ z ≡ z
      alone z = omega (arith, ints)

  pub held_model_utility : (u : ℕ → ℤ) (m : ℕ → ℕ) → IsModelBy input.n (in_scale scale input.cost) own u m → HaveUtility (choices_held_to input scale own) u m
  held_model_utility u m model = have_utility (choices_held_to input scale own) are_choices u m model.at_least_one (held_model u m model)

-- ---- by levels of the observations' own, and at a common level

pub scale_positive : (levels : List ℕ) → 1 ≤ level_scale levels
scale_positive [] = omega arith
scale_positive (level ∷ levels) = omega arith

-- what there is exactly where no violation is
pub record AreWhere (choices : Choices) (None : Type 0) : Type 0 where
  pub nonsatiated : HasNonsatiatedPreference choices ↔ None
  pub preference : HasPreference choices ↔ None
  pub utility : HasConcaveUtility choices ↔ None

all_where : (choices : Choices) (None : Type 0) → (HasNonsatiatedPreference choices → None) → (None → HasConcaveUtility choices) → AreWhere choices None
all_where choices None to from = record {
  nonsatiated = (to, λ none. nonsatiated_of_preference choices (preference_of_concave choices (from none)));
  preference = (λ has. to (nonsatiated_of_preference choices has), λ none. preference_of_concave choices (from none));
  utility = (λ has. to (nonsatiated_of_preference choices (preference_of_concave choices has)), from);
}

module _ (input : TableInput) (full : IsFullInput input) where
  pub by_levels : AreWhere (choices_of input) (HasNoViolation input.n (WeakByLevels input.levels input.cost) (StrictByLevels input.levels input.cost))
  by_levels =
      let some = scale_positive input.levels in
      all_where (choices_of input) (HasNoViolation input.n (WeakByLevels input.levels input.cost) (StrictByLevels input.levels input.cost))
      (held_preferences input full (level_scale input.levels) (own_by_level input.levels input.cost) some)
      (held_utility input full (level_scale input.levels) (own_by_level input.levels input.cost) some)

  pub at_level : (num den : ℕ) → IsLevel num den → AreWhere (choices_at input num den) (MeetsGarpAt input.n input.cost num den)
  at_level num den level =
      let some : 1 ≤ den = omega (arith, level.0, level.1) in
      all_where (choices_at input num den) (MeetsGarpAt input.n input.cost num den)
      (held_preferences input full den (λ s. num * input.cost s s) some) (held_utility input full den (λ s. num * input.cost s s) some)

  -- a preference that fits, whatever relation it is
  pub levels_of_one : (prefers : FractionBundle → FractionBundle → Type 0) → Fits (choices_of input) prefers → HasNoViolation input.n (WeakByLevels input.levels input.cost) (StrictByLevels input.levels input.cost)
  levels_of_one = held_fits input full (level_scale input.levels) (own_by_level input.levels input.cost) (scale_positive input.levels)

  pub level_of_one : (num den : ℕ) → IsLevel num den → (prefers : FractionBundle → FractionBundle → Type 0) → Fits (choices_at input num den) prefers → MeetsGarpAt input.n input.cost num den
  level_of_one num den level = held_fits input full den (λ s. num * input.cost s s) (omega (arith, level.0, level.1))

  pub own_model_utility : (u : ℕ → ℤ) (m : ℕ → ℕ) → IsOwnModel input.n input.levels input.cost u m → HaveUtility (choices_of input) u m
  own_model_utility = held_model_utility input full (level_scale input.levels) (own_by_level input.levels input.cost) (scale_positive input.levels)

  -- two observations that contradict each other by their levels, or by all that was spent
  pub pair_of_one : (prefers : FractionBundle → FractionBundle → Type 0) (s t : ℕ) → s < input.n → t < input.n → WeakByLevels input.levels input.cost s t → StrictByLevels input.levels input.cost t s
      → HasNotBoth (choices_of input) prefers s t
  pair_of_one prefers s t a b weak strict =
      let some = scale_positive input.levels in
      let w = held_weak input full (level_scale input.levels) (own_by_level input.levels input.cost) some s t a b in
      let z = held_strict input full (level_scale input.levels) (own_by_level input.levels input.cost) some t s b a in
      has_not_both (choices_of input) prefers s t (omega arith) (omega arith) (w.0 weak) (z.0 strict)

  pub pair_contradicts : (s t : ℕ) → s < input.n → t < input.n → WeakByLevels input.levels input.cost s t → StrictByLevels input.levels input.cost t s → NoneHasBoth (choices_of input) s t
  pair_contradicts s t a b weak strict passes = pair_of_one (shown_by passes) s t a b weak strict
