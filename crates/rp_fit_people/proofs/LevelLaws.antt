-- The choices of a table, each held to a level that is any fraction, meet the axiom exactly where its levels do.
use Rattle.std.proofs.Common.{◌≡◌, ◌<◌, ◌≤◌, ◌*◌, ◌↔◌, ℕ, zero, suc, sym, ap, ◌∙◌, arith}
use Rattle.std.proofs.Math.Nat.{mul-le-mul_left}
use Rattle.rp_evidence.specs.Demand.{FractionBundle}
use Rattle.rp_evidence.specs.Input.{TableInput}
use Rattle.rp_evidence.specs.Preference.{IsStrictAt, IsWeakAt}
use Rattle.rp_evidence.proofs.SameCosts.{no_violation_same}
use Rattle.rp_table.specs.Spending.{spending}
use Rattle.rp_fit.specs.Levels.{AreLevels, MeetsGarpAtLevels}
use Rattle.rp_people.specs.Choices.{AreChoices, IsStrictChoice, IsWeakChoice, MeetAxiom}
use Rattle.rp_people.specs.Rationalizing.{Fits, HasConcaveUtility, HasNonsatiatedPreference}
use Rattle.rp_people.specs.Preferences.{shown_by}
use Rattle.rp_people.specs.TableChoices.{IsFullInput}
use Rattle.rp_people.specs.Utilities.{preference_of}
use Rattle.rp_people.proofs.AfriatUtilities.{concave_utility_exists}
use Rattle.rp_people.proofs.Chains.{meets_axiom}
use Rattle.rp_people.proofs.Orders.{nonsatiated_of_preference, nonsatiated_utility, preference_of_concave}
use Rattle.rp_fit_people.specs.LevelPeople.{choices_at_levels}

-- prices that are multiplied
times_prices : (goods k : ℕ) (prices bundle : ℕ → ℕ) → spending goods (λ g. k * prices g) bundle ≡ k * spending goods prices bundle
times_prices zero k prices bundle = omega arith
times_prices (suc goods) k prices bundle = let h = times_prices goods k prices bundle in omega (arith, h)

module _ (input : TableInput) (full : IsFullInput input) (num den : ℕ → ℕ) (levels : AreLevels input.n num den) where
  are_choices : AreChoices (choices_at_levels input num den)
  are_choices = record {
    some = full.some;
    some_goods = full.some_goods;
    positive_prices = λ s g s_in g_in. product (den s) (input.price s g) (let l = levels s s_in in omega (arith, l.0, l.1)) (full.positive_prices s g s_in g_in);
    bundles = λ s l. omega arith;
    positive_scale = omega arith;
  }
    where
      product : (a b : ℕ) → 1 ≤ a → 1 ≤ b → 1 ≤ a * b
      product a b p q = let h : a * 1 ≤ a * b = mul-le-mul_left a q in omega (arith, h, p)

  costs_as : (s t : ℕ) → s < input.n → t < input.n → spending input.goods (λ g. den s * input.price s g) (input.quantity t) ≡ den s * input.cost s t
  costs_as s t s_in t_in = times_prices input.goods (den s) (input.price s) (input.quantity t) ∙ ap (λ z. den s * z) (sym (input.sums s t s_in t_in))

  weak_as : (s t : ℕ) → s < input.n → t < input.n → IsWeakAt input.cost (num s) (den s) s t ↔ IsWeakChoice (choices_at_levels input num den) s t
  weak_as s t s_in t_in = let e = costs_as s t s_in t_in in (λ h. omega (arith, e, h), λ h. omega (arith, e, h))

  strict_as : (s t : ℕ) → s < input.n → t < input.n → IsStrictAt input.cost (num s) (den s) s t ↔ IsStrictChoice (choices_at_levels input num den) s t
  strict_as s t s_in t_in = let e = costs_as s t s_in t_in in (λ h. omega (arith, e, h), λ h. omega (arith, e, h))

  to_choices : MeetsGarpAtLevels input.n input.cost num den → MeetAxiom (choices_at_levels input num den)
  to_choices =
      no_violation_same input.n (λ s t. IsWeakAt input.cost (num s) (den s) s t) (λ s t. IsStrictAt input.cost (num s) (den s) s t) (IsWeakChoice (choices_at_levels input num den)) (IsStrictChoice (choices_at_levels input num den)) weak_as strict_as

  from_choices : MeetAxiom (choices_at_levels input num den) → MeetsGarpAtLevels input.n input.cost num den
  from_choices =
      no_violation_same input.n (IsWeakChoice (choices_at_levels input num den)) (IsStrictChoice (choices_at_levels input num den)) (λ s t. IsWeakAt input.cost (num s) (den s) s t) (λ s t. IsStrictAt input.cost (num s) (den s) s t)
      (λ s t a b. let w = weak_as s t a b in (w.1, w.0)) (λ s t a b. let w = strict_as s t a b in (w.1, w.0))

  pub levels_of_one : (prefers : FractionBundle → FractionBundle → Type 0) → Fits (choices_at_levels input num den) prefers → MeetsGarpAtLevels input.n input.cost num den
  levels_of_one prefers fits =
      from_choices (meets_axiom (choices_at_levels input num den) are_choices.bundles prefers fits.preference fits.rationalizes)

  pub levels_of_some : HasNonsatiatedPreference (choices_at_levels input num den) → MeetsGarpAtLevels input.n input.cost num den
  levels_of_some has = levels_of_one (shown_by has.passes) has.fits

  pub utility_at_levels : MeetsGarpAtLevels input.n input.cost num den → HasConcaveUtility (choices_at_levels input num den)
  utility_at_levels meets = concave_utility_exists (choices_at_levels input num den) are_choices (to_choices meets)

  pub levels_of_utility : HasConcaveUtility (choices_at_levels input num den) → MeetsGarpAtLevels input.n input.cost num den
  levels_of_utility has =
      levels_of_one (preference_of has.utility) (record { preference = nonsatiated_utility input.goods has.utility has.concave_utility; rationalizes = has.rationalizes })

  pub some_at_levels : MeetsGarpAtLevels input.n input.cost num den → HasNonsatiatedPreference (choices_at_levels input num den)
  some_at_levels meets =
      nonsatiated_of_preference (choices_at_levels input num den) (preference_of_concave (choices_at_levels input num den) (utility_at_levels meets))
