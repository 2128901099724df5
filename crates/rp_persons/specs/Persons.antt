-- Persons who choose from budgets (McFadden and Richter 1990; Kitamura and Stoye 2018, section 2): each has a
-- preference, and takes from every budget a bundle that is best there.
use Rattle.std.specs.Prelude.{◌≡◌, ℕ, ◌*◌, ◌<◌, ◌↔◌, Bool, ℤ, List, map}
use Rattle.std.specs.Cmp.Lexicographic.{pointwise}
use Rattle.std.specs.List.{range_with_len}
use Rattle.std.specs.Ordering.{int_eq, nat_cmp}
use Rattle.rp_table.specs.Spending.{spending}
use Rattle.rp_evidence.specs.Demand.{FractionBundle}
use Rattle.rp_people.specs.Bundles.{CostsAtMost, IsBundle}
use Rattle.rp_people.specs.Fractions.{SignedFraction}
use Rattle.rp_people.specs.Preferences.{IsAtLeastAsGood, IsNonsatiatedPreference, shown_by}
use Rattle.rp_people.specs.Utilities.{IsConcaveUtility, preference_of}
use Rattle.rp_patch.specs.Choices.{RandomInput}
use Rattle.rp_patch.specs.Patches.{PatchList, budget_at, patch_at}
use Rattle.rp_patch.specs.Signs.{cost_on, sign_of}

-- A preference by its name, and the bundle that is taken from each budget. What serves as names is left open: tests of
-- evidence (`shown_by`) name the preferences that they make, and numbers any relations at all.
pub record Person (Names : Type 0) : Type 0 where
  pub name : Names
  pub bundle : ℕ → FractionBundle

-- Tests of evidence, as names.
abbrev pub Tests : Type 0
Tests = FractionBundle → FractionBundle → (ℕ → ℕ) → Bool

-- The preference of the name is locally nonsatiated, and from each of these budgets the person takes a bundle that costs
-- its income and is at least as good as all bundles that cost at most that.
pub record IsPersonOn {Names : Type 0} (input : RandomInput)
    (prefers : Names → FractionBundle → FractionBundle → Type 0) (person : Person Names) : Type 0 where
  pub preference : IsNonsatiatedPreference input.goods (prefers person.name)
  pub bundles : (j : ℕ) → j < input.budgets → IsBundle (person.bundle j)
  pub spent : (j : ℕ) → j < input.budgets
      → spending input.goods (input.price j) (person.bundle j).num ≡ (person.bundle j).den * input.income j
  pub best : (j : ℕ) → j < input.budgets → (x : FractionBundle) → IsBundle x
      → CostsAtMost input.goods (input.price j) x (input.income j) 1
      → IsAtLeastAsGood (prefers person.name) (person.bundle j) x

-- The person has a strictly monotone and concave utility, whose preference is the person's.
pub record HasUtility (input : RandomInput) (person : Person Tests) : Type 0 where
  pub utility : FractionBundle → SignedFraction
  pub concave_utility : IsConcaveUtility input.goods utility
  pub its_preference : (x y : FractionBundle) → shown_by person.name x y ↔ preference_of utility x y

-- 1 where the bundle costs more than the income of budget k at its prices, -1 where it costs less, and 0 where it costs
-- just that.
abbrev pub sign_of_bundle : RandomInput → FractionBundle → ℕ → ℤ
sign_of_bundle input x k = sign_of (nat_cmp (spending input.goods (input.price k) x.num) (input.income k * x.den))

-- The signs of a bundle to all budgets, in order.
abbrev pub signs_of_bundle : RandomInput → FractionBundle → List ℤ
signs_of_bundle input x = map (sign_of_bundle input x) (range_with_len 0 input.budgets)

-- The person uses patch i: what is taken from the budget of the patch has the patch's signs.
abbrev pub uses_patch : {Names : Type 0} → RandomInput → PatchList → Person Names → ℕ → Bool
uses_patch input p person i =
    pointwise int_eq (signs_of_bundle input (person.bundle (budget_at p i))) (patch_at p i).signs

-- The bundle of choice c in the proportions in which it was chosen, scaled to cost the income of budget j, on which it
-- was made.
abbrev pub scaled_choice : RandomInput → ℕ → ℕ → FractionBundle
scaled_choice input j c = record { den = cost_on input j c; num = λ g. input.income j * input.quantity c g }
