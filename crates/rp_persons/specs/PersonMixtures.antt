-- Choices that a population of persons makes (McFadden and Richter 1990; Kitamura and Stoye 2018, section 2; Smeulders,
-- Cherchye and De Rock 2021).
use Rattle.std.specs.Prelude.{◌≡◌, ℕ, ◌*◌, ◌<◌, ◌≤◌, IsTrue, List, Contains, length, sum_by, if◌then◌else◌}
use Rattle.rp_evidence.specs.Demand.{FractionBundle}
use Rattle.rp_people.specs.Preferences.{shown_by}
use Rattle.rp_patch.specs.Choices.{RandomInput}
use Rattle.rp_patch.specs.Patches.{PatchList, budget_at, units_at}
use Rattle.rp_patch.specs.Signs.{cost_on}
use Rattle.rp_persons.specs.Persons.{HasUtility, IsPersonOn, Person, Tests, uses_patch}

-- A person, and how much of the population is like that.
pub record PersonShare (Names : Type 0) : Type 0 where
  pub person : Person Names
  pub weight : ℕ

-- How much of the population uses patch i.
abbrev pub weight_of_users : {Names : Type 0} → RandomInput → PatchList → List (PersonShare Names) → ℕ → ℕ
weight_of_users input p persons i =
    sum_by (λ share. if uses_patch input p share.person i then share.weight else 0) persons

-- On every budget the person uses a listed patch.
abbrev pub UsesListedPatches : {Names : Type 0} → RandomInput → PatchList → Person Names → Type 0
UsesListedPatches input p person = (j : ℕ) → j < input.budgets
    → (i : ℕ) × (i < length p.patches) × (budget_at p i ≡ j) × IsTrue (uses_patch input p person i)

-- These persons, with weights over the denominator and the preferences of their names, make the choices: each uses a listed patch on every budget, and
-- just the units of each patch are of those who use it.
pub record MakeChoices {Names : Type 0} (input : RandomInput) (p : PatchList)
    (prefers : Names → FractionBundle → FractionBundle → Type 0) (den : ℕ)
    (persons : List (PersonShare Names)) : Type 0 where
  pub fraction : 0 < den
  pub choose_best : (share : PersonShare Names) → Contains persons share → IsPersonOn input prefers share.person
  pub use_listed : (share : PersonShare Names) → Contains persons share → UsesListedPatches input p share.person
  pub exact : (i : ℕ) → i < length p.patches → weight_of_users input p persons i ≡ den * units_at p i

-- Each of these persons has a utility.
abbrev pub HaveUtilities : RandomInput → List (PersonShare Tests) → Type 0
HaveUtilities input persons = (share : PersonShare Tests) → Contains persons share → HasUtility input share.person

-- Some finitely many persons make the choices.
abbrev pub SomePersonsMakeChoices : RandomInput → PatchList → Type 0
SomePersonsMakeChoices input p = (den : ℕ) × (persons : List (PersonShare Tests))
    × MakeChoices input p shown_by den persons

-- Some finitely many persons with utilities do.
abbrev pub SomeWithUtilitiesMakeChoices : RandomInput → PatchList → Type 0
SomeWithUtilitiesMakeChoices input p = (den : ℕ) × (persons : List (PersonShare Tests))
    × MakeChoices input p shown_by den persons × HaveUtilities input persons

-- How much there is of all these persons.
abbrev pub weight_of_persons : {Names : Type 0} → List (PersonShare Names) → ℕ
weight_of_persons persons = sum_by (λ share. share.weight) persons

-- These persons, with weights over the denominator, make a part of the choices: at most the units of each patch are of
-- those who use it, and what is left may be of anyone.
pub record MakePartOfChoices {Names : Type 0} (input : RandomInput) (p : PatchList)
    (prefers : Names → FractionBundle → FractionBundle → Type 0) (den : ℕ)
    (persons : List (PersonShare Names)) : Type 0 where
  pub fraction : 0 < den
  pub choose_best : (share : PersonShare Names) → Contains persons share → IsPersonOn input prefers share.person
  pub use_listed : (share : PersonShare Names) → Contains persons share → UsesListedPatches input p share.person
  pub within : (i : ℕ) → i < length p.patches → weight_of_users input p persons i ≤ den * units_at p i

-- num/den is the greatest share of the choices that persons make: some with utilities make it, and no persons make
-- more.
pub record IsGreatestShareOfPersons (input : RandomInput) (p : PatchList) (num den : ℕ) : Type 0 where
  pub fraction : 0 < den
  pub reached : (d : ℕ) × (persons : List (PersonShare Tests)) × MakePartOfChoices input p shown_by d persons
      × HaveUtilities input persons × (weight_of_persons persons * den ≡ num * (d * p.total))
  pub no_greater : (d : ℕ) (persons : List (PersonShare Tests)) → MakePartOfChoices input p shown_by d persons
      → weight_of_persons persons * den ≤ num * (d * p.total)

-- There are goods, no price is 0, and each bundle that was chosen from a budget costs something there, as it does where
-- it is not empty.
pub record IsFullRandomInput (input : RandomInput) : Type 0 where
  pub some_goods : 1 ≤ input.goods
  pub positive_prices : (j g : ℕ) → j < input.budgets → g < input.goods → 1 ≤ input.price j g
  pub positive_costs : (c : ℕ) → c < input.choices → input.budget c < input.budgets → 0 < input.times c
      → 1 ≤ cost_on input (input.budget c) c
