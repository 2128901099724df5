-- The definitions at two budgets of two goods, at the prices (1, 2) and (2, 1) with an income of 4 each, and (1, 1) chosen
-- from the first: scaled to (4, 4) over 3 it costs just 4 there, and at the other prices too; who keeps money is no
-- person on these budgets. Who looks at the sum of both goods takes (4, 0) from the first and (0, 4) from the second, uses
-- just the patches that these lie on, and makes the choices alone. The greatest share of persons is one number.
use Rattle.std.proofs.Common.{◌≡◌, ℕ, zero, suc, ◌*◌, ◌<◌, ◌≤◌, List, [], ◌∷◌, None, true, false, ap, refl, slice_index, slice_index_or, subst, arith}
use Rattle.std.proofs.Math.Nat.{le_of_mul-le-mul_left, mul-le-mul_left, mul-pos}
use Rattle.std.specs.Prelude.{Contains, pos, negsuc}
use Rattle.rp_table.specs.Spending.{spending}
use Rattle.rp_evidence.specs.Demand.{FractionBundle}
use Rattle.rp_patch.specs.Choices.{RandomInput}
use Rattle.rp_patch.specs.Patches.{PatchList, units_at}
use Rattle.rp_patch.specs.Signs.{cost_on, signs_of}
use Rattle.rp_people.specs.Bundles.{CostsAtMost, HasMoreOfSomeGood, IsBundle}
use Rattle.rp_people.specs.Preferences.{IsAtLeastAsGood, IsBetter, IsNonsatiatedPreference, shown_by}
use Rattle.rp_people.proofs.FactsOfPreferences.{by, by_is_preference, more_size, same_size, size, test}
use Rattle.rp_people.proofs.Orders.{strict_is_better}
use Rattle.rp_people.proofs.Rooms.{preference_is_nonsatiated}
use Rattle.rp_persons.specs.PersonMixtures.{IsFullRandomInput, IsGreatestShareOfPersons, MakeChoices, MakePartOfChoices, PersonShare, SomePersonsMakeChoices, SomeWithUtilitiesMakeChoices, UsesListedPatches, weight_of_persons, weight_of_users}
use Rattle.rp_persons.specs.Persons.{HasUtility, IsPersonOn, Person, Tests, scaled_choice, signs_of_bundle, uses_patch}
use Rattle.rp_persons.proofs.Populations.{with_utilities_make}

abbrev two : RandomInput
two = record {
  budgets = 2;
  goods = 2;
  price = λ j g. slice_index (slice_index_or ((1 ∷ 2 ∷ []) ∷ (2 ∷ 1 ∷ []) ∷ []) j []) g;
  income = λ j. 4;
  choices = 1;
  budget = λ c. 0;
  quantity = λ c g. 1;
  times = λ c. 1;
}

scaled_there : signs_of_bundle two (scaled_choice two 0 0) ≡ pos 0 ∷ pos 0 ∷ []
scaled_there = refl

as_chosen : signs_of two 0 ≡ pos 0 ∷ pos 0 ∷ []
as_chosen = refl

-- (4, 0) costs 4 and 8, and (1, 1) costs 3 at both
above : signs_of_bundle two (record { den = 1; num = slice_index (4 ∷ 0 ∷ []) }) ≡ pos 0 ∷ pos 1 ∷ []
above = refl

below : signs_of_bundle two (record { den = 1; num = λ g. 1 }) ≡ negsuc 0 ∷ negsuc 0 ∷ []
below = refl

keeps_money : (prefers : FractionBundle → FractionBundle → Type 0) → ¬ IsPersonOn two (λ (k : ℕ). prefers) (record { name = 0; bundle = λ j. record { den = 1; num = λ g. 1 } })
keeps_money prefers is = let e = is.spent 0 (omega arith) in absurd (omega (arith, e))

two_is_full : IsFullRandomInput two
two_is_full = record { some_goods = omega arith; positive_prices = prices; positive_costs = costs }
  where
    prices : (j g : ℕ) → j < 2 → g < 2 → 1 ≤ two.price j g
    prices zero zero a b = omega arith
    prices zero (suc zero) a b = omega arith
    prices (suc zero) zero a b = omega arith
    prices (suc zero) (suc zero) a b = omega arith
    prices (suc (suc j)) g a b = absurd (omega arith)
    prices zero (suc (suc g)) a b = absurd (omega arith)
    prices (suc zero) (suc (suc g)) a b = absurd (omega arith)

    costs : (c : ℕ) → c < 1 → 0 < 2 → 0 < 1 → 1 ≤ cost_on two 0 c
    costs c a b d = omega arith

-- ---- a person, and one who takes (0, 2), which costs all that is there and is worse than (4, 0)

sum_is_nonsatiated : IsNonsatiatedPreference 2 (by size)
sum_is_nonsatiated = preference_is_nonsatiated 2 (by size) (by_is_preference size 2 same_size more_size)

-- the preference of the name 0 looks at the sum of both goods
abbrev by_sum : ℕ → FractionBundle → FractionBundle → Type 0
by_sum k = by size

abbrev takes : List (List ℕ) → Person ℕ
takes bundles = record { name = 0; bundle = λ j. record { den = 1; num = slice_index (slice_index_or bundles j []) } }

abbrev summer : Person ℕ
summer = takes ((4 ∷ 0 ∷ []) ∷ (0 ∷ 4 ∷ []) ∷ [])

summer_is : IsPersonOn two by_sum summer
summer_is = record { preference = sum_is_nonsatiated; bundles = λ j l. omega arith; spent = spent; best = best }
  where
    spent : (j : ℕ) → j < 2 → spending 2 (two.price j) (summer.bundle j).num ≡ 1 * 4
    spent zero l = refl
    spent (suc zero) l = refl
    spent (suc (suc j)) l = absurd (omega arith)

    best : (j : ℕ) → j < 2 → (x : FractionBundle) → IsBundle x → CostsAtMost 2 (two.price j) x 4 1 → IsAtLeastAsGood (by size) (summer.bundle j) x
    best zero l x ix h = (test _ _).1 (omega (arith, h))
    best (suc zero) l x ix h = (test _ _).1 (omega (arith, h))
    best (suc (suc j)) l x ix h = absurd (omega arith)

takes_worse : ¬ IsPersonOn two by_sum (takes ((0 ∷ 2 ∷ []) ∷ (0 ∷ 4 ∷ []) ∷ []))
takes_worse is = let e = is.best 0 (omega arith) (summer.bundle 0) (omega arith) (omega arith) in absurd cc

-- ---- patches: both where the bundles lie, one of the first budget's signs on the second, and one with other signs

abbrev lists : PatchList
lists = record {
  budgets = 2;
  patches =
      record { budget = 0; signs = pos 0 ∷ pos 1 ∷ []; units = 3 } ∷ record { budget = 1; signs = pos 1 ∷ pos 0 ∷ []; units = 3 }
      ∷ record { budget = 1; signs = pos 0 ∷ pos 1 ∷ []; units = 0 } ∷ record { budget = 0; signs = pos 0 ∷ pos 0 ∷ []; units = 0 } ∷ [];
  total = 3;
  asked = None;
}

uses_both : (uses_patch two lists summer 0 ≡ true) × (uses_patch two lists summer 1 ≡ true)
uses_both = (refl, refl)

uses_no_other : (uses_patch two lists summer 2 ≡ false) × (uses_patch two lists summer 3 ≡ false)
uses_no_other = (refl, refl)

abbrev so_many : ℕ → PersonShare ℕ
so_many k = record { person = summer; weight = k }

users_weigh : (weight_of_users two lists (so_many 2 ∷ so_many 3 ∷ []) 0 ≡ 5) × (weight_of_users two lists (so_many 2 ∷ so_many 3 ∷ []) 2 ≡ 0) × (weight_of_persons (so_many 2 ∷ so_many 3 ∷ []) ≡ 5)
users_weigh = (refl, refl, refl)

one_alone : (k : ℕ) (P : PersonShare ℕ → Type 0) → P (so_many k) → (share : PersonShare ℕ) → Contains (so_many k ∷ []) share → P share
one_alone k P here share (zero, l, e) = subst P e here
one_alone k P here share (suc i, l, e) = absurd (omega (arith, l))

summer_lists : UsesListedPatches two lists summer
summer_lists zero l = (0, omega arith, refl, refl)
summer_lists (suc zero) l = (1, omega arith, refl, refl)
summer_lists (suc (suc j)) l = absurd (omega arith)

three_make : MakeChoices two lists by_sum 1 (so_many 3 ∷ [])
three_make = record {
  fraction = omega arith;
  choose_best = one_alone 3 (λ share. IsPersonOn two by_sum share.person) summer_is;
  use_listed = one_alone 3 (λ share. UsesListedPatches two lists share.person) summer_lists;
  exact = exact;
}
  where
    exact : (i : ℕ) → i < 4 → weight_of_users two lists (so_many 3 ∷ []) i ≡ 1 * units_at lists i
    exact zero l = refl
    exact (suc zero) l = refl
    exact (suc (suc zero)) l = refl
    exact (suc (suc (suc zero))) l = refl
    exact (suc (suc (suc (suc i)))) l = absurd (omega arith)

two_make_a_part : MakePartOfChoices two lists by_sum 1 (so_many 2 ∷ [])
two_make_a_part = record {
  fraction = omega arith;
  choose_best = one_alone 2 (λ share. IsPersonOn two by_sum share.person) summer_is;
  use_listed = one_alone 2 (λ share. UsesListedPatches two lists share.person) summer_lists;
  within = within;
}
  where
    within : (i : ℕ) → i < 4 → weight_of_users two lists (so_many 2 ∷ []) i ≤ 1 * units_at lists i
    within zero l = omega arith
    within (suc zero) l = omega arith
    within (suc (suc zero)) l = omega arith
    within (suc (suc (suc zero))) l = omega arith
    within (suc (suc (suc (suc i)))) l = absurd (omega arith)

two_make_not_all : ¬ MakeChoices two lists by_sum 1 (so_many 2 ∷ [])
two_make_not_all are = let e = are.exact 0 (omega arith) in absurd cc

four_make_no_part : ¬ MakePartOfChoices two lists by_sum 1 (so_many 4 ∷ [])
four_make_no_part are = let l = are.within 0 (omega arith) in absurd (omega (arith, l))

-- ---- who has a utility has more of one good as better

more_of_one_is_better : (input : RandomInput) (person : Person Tests) → HasUtility input person → (x y : FractionBundle) → IsBundle x → IsBundle y → HasMoreOfSomeGood input.goods x y → IsBetter (shown_by person.name) x y
more_of_one_is_better input person has x y ix iy more =
    let better = strict_is_better input.goods has.utility has.concave_utility.utility_of_bundles has.concave_utility.strictly_monotone x y ix iy more in
    ((has.its_preference x y).1 better.0, λ back. better.1 ((has.its_preference y x).0 back))

-- ---- the greatest share is one number, and yes and no exclude each other

share_is_one : (input : RandomInput) (p : PatchList) (num den num' den' : ℕ) → 0 < p.total → IsGreatestShareOfPersons input p num den → IsGreatestShareOfPersons input p num' den' → num * den' ≡ num' * den
share_is_one input p num den num' den' some is other =
    let here = at_most num den num' den' is other in
    let there = at_most num' den' num den other is in
    omega arith
  where
    below : (a b c d k u : ℕ) → 0 < u → k * b ≡ a * u → k * d ≤ c * u → a * d ≤ c * b
    below a b c d k u some e l =
        let m : b * (k * d) ≤ b * (c * u) = mul-le-mul_left b l in
        let f = ap (λ z. z * d) e in
        le_of_mul-le-mul_left {k = u} (omega arith) some

    at_most : (a b c d : ℕ) → IsGreatestShareOfPersons input p a b → IsGreatestShareOfPersons input p c d → a * d ≤ c * b
    at_most a b c d is other =
        let r = is.reached in
        below a b c d (weight_of_persons r.1) (r.0 * p.total) (mul-pos r.2.fraction some) r.4 (other.no_greater r.0 r.1 r.2)

mixture_or_none : (input : RandomInput) (p : PatchList) → SomeWithUtilitiesMakeChoices input p → ¬ (¬ SomePersonsMakeChoices input p)
mixture_or_none input p some none = none (with_utilities_make input p some)
