-- A mixture of rational types is one of persons: each rational type is that of a person whose bundles are chosen ones,
-- scaled, by Afriat's theorem; and each person's type is rational.
use Rattle.std.proofs.Common.{◌≡◌, ℕ, zero, suc, ◌+◌, ◌*◌, ◌<◌, ◌≤◌, ◌⊎◌, ◌↔◌, inl, inr, List, [], ◌∷◌, Option, map, length, slice_index, ap, refl, sym, subst, ◌∙◌, arith}
use Rattle.std.proofs.lemmas.Bool.{cases_lt}
use Rattle.std.proofs.lemmas.List.FromFn.{get_or-map-range_with_len, length-map-range_with_len}
use Rattle.std.proofs.lemmas.List.Sums.{sum_by-cons}
use Rattle.std.specs.Cmp.Rules.{signed_items}
use Rattle.std.specs.List.{range_with_len}
use Rattle.std.specs.Prelude.{Contains, IsTrue, if◌then◌else◌}
use Rattle.rp_table.specs.Spending.{spending}
use Rattle.rp_evidence.specs.Demand.{FractionBundle}
use Rattle.rp_evidence.specs.declared.random.Share.{Share}
use Rattle.rp_people.specs.Choices.{AreChoices}
use Rattle.rp_people.specs.Preferences.{shown_by}
use Rattle.rp_people.proofs.AfriatUtilities.{concave_utility_exists}
use Rattle.rp_people.proofs.Chains.{meets_axiom}
use Rattle.rp_people.proofs.Orders.{passes_for, shown_fits, shows}
use Rattle.rp_patch.specs.Choices.{RandomInput}
use Rattle.rp_patch.specs.FirstChoices.{AreNumberedByFirstChoice, IsFirstInPatch}
use Rattle.rp_patch.specs.Kinds.{uses, weight_of, weight_using}
use Rattle.rp_patch.specs.Mixtures.{HasMixture, IsGreatestShare, IsPartialMixture, types_on}
use Rattle.rp_patch.specs.Patches.{IsPatchList, PatchList, budget_at, patch_at}
use Rattle.rp_patch.specs.Signs.{cost_on}
use Rattle.rp_patch.specs.Types.{IsRationalType, IsType}
use Rattle.rp_patch.specs.Units.{ArePatchesOf}
use Rattle.rp_patch.proofs.FirstChosen.{numbered}
use Rattle.rp_patch.proofs.KindWeights.{uses_some}
use Rattle.rp_persons.specs.OfAnyPersons.{MakeAtMost}
use Rattle.rp_persons.specs.PersonMixtures.{HaveUtilities, IsFullRandomInput, IsGreatestShareOfPersons, MakeChoices, MakePartOfChoices, PersonShare, SomePersonsMakeChoices, SomeWithUtilitiesMakeChoices, UsesListedPatches, weight_of_persons, weight_of_users}
use Rattle.rp_persons.specs.Persons.{HasUtility, IsPersonOn, Person, Tests, scaled_choice, signs_of_bundle, uses_patch}
use Rattle.rp_persons.proofs.SignFacts.{scaled_signs, scaled_spent}
use Rattle.rp_persons.proofs.TypesOfPersons.{IsTypeOf, axiom_of_rational, choices_by, rational_of_axiom, uses_its_type}

-- ---- numbers for all below a bound, and what holds of all elements of a list

module _ (n : ℕ) (P : ℕ → ℕ → Type 0) (each : (i : ℕ) → i < n → (c : ℕ) × P i c) where
  number_at : (i : ℕ) → (i < n) ⊎ (n ≤ i) → ℕ
  number_at i (inl l) = (each i l).0
  number_at i (inr l) = 0

  number_is : (i : ℕ) → i < n → (d : (i < n) ⊎ (n ≤ i)) → P i (number_at i d)
  unfolding number_at
  number_is i l (inl k) = (each i k).1
  number_is i l (inr k) = absurd (omega arith)

  choose : (f : ℕ → ℕ) × ((i : ℕ) → i < n → P i (f i))
  choose = (λ i. number_at i (cases_lt i n), λ i l. number_is i l (cases_lt i n))

module _ {X : Type 0} (P : X → Type 0) where
  all_empty : (y : X) → Contains [] y → P y
  all_empty y (k, l, e) = absurd (omega (arith, l))

  all_more : (x : X) (xs : List X) → P x → ((y : X) → Contains xs y → P y) → (y : X) → Contains (x ∷ xs) y → P y
  all_more x xs here there y (zero, l, e) = subst P e here
  all_more x xs here there y (suc k, l, e) = there y (k, omega (arith, l), e)

  first_of_all : (x : X) (xs : List X) → ((y : X) → Contains (x ∷ xs) y → P y) → P x
  first_of_all x xs all = all x (0, omega arith, refl)

  rest_of_all : (x : X) (xs : List X) → ((y : X) → Contains (x ∷ xs) y → P y) → (y : X) → Contains xs y → P y
  rest_of_all x xs all y (k, l, e) = all y (suc k, omega (arith, l), e)

module _ (input : RandomInput) (p : PatchList) (budgets : p.budgets ≡ input.budgets) (firsts : AreNumberedByFirstChoice input p) (valid : IsPatchList p) where
  module _ (Names : Type 0) (prefers : Names → FractionBundle → FractionBundle → Type 0) where
    -- a person and the type that the person has
    record HasThisType (person : Person Names) (type : List ℕ) : Type 0 where
      rational : IsRationalType p type
      type_of : IsTypeOf input p person.bundle type
      is_person : IsPersonOn input prefers person

    its_uses : (person : Person Names) (type : List ℕ) → HasThisType person type → (i : ℕ) → i < length p.patches → uses_patch input p person i ≡ uses type i
    its_uses person type has = uses_its_type input p budgets person.bundle type has.type_of firsts valid.on_budgets person refl

    listed_uses : (person : Person Names) (type : List ℕ) → HasThisType person type → UsesListedPatches input p person
    listed_uses person type has j l =
        let is = has.rational.0 in
        let within : j < p.budgets = omega (arith, l, budgets) in
        let inside = is.patch j within in (
          slice_index type j,
          inside,
          is.on_its_budget j within,
          its_uses person type has (slice_index type j) inside ∙ uses_some type j (omega (arith, within, is.one_each)),
        )

    -- so much of the population is of one type
    same_weight : (person : Person Names) (type : List ℕ) (weight : ℕ) (persons : List (PersonShare Names)) (parts : List Share) (i : ℕ) → HasThisType person type → i < length p.patches
        → weight_of_users input p persons i ≡ weight_using (types_on p) parts i
        → weight_of_users input p (record { person = person; weight = weight } ∷ persons) i ≡ weight_using (types_on p) (record { patches = type; weight = weight } ∷ parts) i
    same_weight person type weight persons parts i has l same =
        sum_by-cons (λ (share : PersonShare Names). if uses_patch input p share.person i then share.weight else 0) (record { person = person; weight = weight }) persons
        ∙ (λ z. (if its_uses person type has i l z then weight else 0) + same z)
        ∙ sym (sum_by-cons (λ (part : Share). if uses part.patches i then part.weight else 0) (record { patches = type; weight = weight }) parts)

    same_total : (person : Person Names) (type : List ℕ) (weight : ℕ) (persons : List (PersonShare Names)) (parts : List Share) → weight_of_persons persons ≡ weight_of parts
        → weight_of_persons (record { person = person; weight = weight } ∷ persons) ≡ weight_of (record { patches = type; weight = weight } ∷ parts)
    same_total person type weight persons parts same =
        sum_by-cons (λ (share : PersonShare Names). share.weight) (record { person = person; weight = weight }) persons
        ∙ (λ z. weight + same z)
        ∙ sym (sum_by-cons (λ (part : Share). part.weight) (record { patches = type; weight = weight }) parts)

  -- ---- from types to persons

  module _ (full : IsFullRandomInput input) where
    first : (f : ℕ → ℕ) × ((i : ℕ) → i < length p.patches → IsFirstInPatch input p i (f i))
    first = choose (length p.patches) (IsFirstInPatch input p) firsts.each

    -- the first choice of the type's patch of each budget, scaled
    taken : List ℕ → ℕ → FractionBundle
    taken type j = scaled_choice input j (first.0 (slice_index type j))

    module _ (type : List ℕ) (is : IsType p type) where
      is_first : (j : ℕ) → j < input.budgets → IsFirstInPatch input p (slice_index type j) (first.0 (slice_index type j))
      is_first j l = first.1 (slice_index type j) (is.patch j (omega (arith, l, budgets)))

      on_it : (j : ℕ) → j < input.budgets → input.budget (first.0 (slice_index type j)) ≡ j
      on_it j l = (is_first j l).falls.on_budget ∙ is.on_its_budget j (omega (arith, l, budgets))

      taken_type : IsTypeOf input p (taken type) type
      unfolding taken
      taken_type = record {
        type_is = is;
        alike = λ j l. scaled_signs input j (first.0 (slice_index type j)) (on_it j l) ∙ (is_first j l).falls.has_signs;
      }

      positive : (j : ℕ) → j < input.budgets → 1 ≤ cost_on input j (first.0 (slice_index type j))
      positive j l =
          let c = first.0 (slice_index type j) in
          let at = is_first j l in
          let b = on_it j l in
          subst (λ (k : ℕ). 1 ≤ cost_on input k c) b (full.positive_costs c at.falls.is_choice (omega (arith, l, b)) at.made)

      taken_choices : AreChoices (choices_by input (taken type))
      unfolding taken
      taken_choices = record {
        some = omega (arith, valid.some_budgets, budgets);
        some_goods = full.some_goods;
        positive_prices = full.positive_prices;
        bundles = positive;
        positive_scale = omega arith;
      }

      taken_spent : (j : ℕ) → j < input.budgets → spending input.goods (input.price j) (taken type j).num ≡ (taken type j).den * input.income j
      unfolding taken
      taken_spent j l = scaled_spent input j (first.0 (slice_index type j))

    person_of : (type : List ℕ) → IsRationalType p type → (person : Person Tests) × HasThisType Tests shown_by person type × HasUtility input person
    person_of type rational =
        let is = taken_type type rational.0 in
        let are = taken_choices type rational.0 in
        let has = concave_utility_exists (choices_by input (taken type)) are (axiom_of_rational input p budgets (taken type) type is rational) in
        let fits = shown_fits (choices_by input (taken type)) has.utility has.concave_utility has.rationalizes in (
          record { name = passes_for has.utility; bundle = taken type },
          record {
            rational = rational;
            type_of = is;
            is_person = record {
              preference = fits.preference;
              bundles = are.bundles;
              spent = taken_spent type rational.0;
              best = fits.rationalizes;
            };
          },
          record { utility = has.utility; concave_utility = has.concave_utility; its_preference = λ x y. let e = shows has.utility x y in (e.1, e.0) },
        )

    record ArePersonsOf (parts : List Share) (persons : List (PersonShare Tests)) : Type 0 where
      choose_best : (share : PersonShare Tests) → Contains persons share → IsPersonOn input shown_by share.person
      use_listed : (share : PersonShare Tests) → Contains persons share → UsesListedPatches input p share.person
      utilities : HaveUtilities input persons
      same : (i : ℕ) → i < length p.patches → weight_of_users input p persons i ≡ weight_using (types_on p) parts i
      total : weight_of_persons persons ≡ weight_of parts

    persons_of : (parts : List Share) → ((part : Share) → Contains parts part → IsRationalType p part.patches) → (persons : List (PersonShare Tests)) × ArePersonsOf parts persons
    persons_of [] all = (
      [],
      record {
        choose_best = all_empty (λ (share : PersonShare Tests). IsPersonOn input shown_by share.person);
        use_listed = all_empty (λ (share : PersonShare Tests). UsesListedPatches input p share.person);
        utilities = all_empty (λ (share : PersonShare Tests). HasUtility input share.person);
        same = λ i l. refl;
        total = refl;
      },
    )
    persons_of (part ∷ parts) all =
        let here = person_of part.patches (first_of_all (λ (part : Share). IsRationalType p part.patches) part parts all) in
        let rest = persons_of parts (rest_of_all (λ (part : Share). IsRationalType p part.patches) part parts all) in (
          record { person = here.0; weight = part.weight } ∷ rest.0,
          record {
            choose_best = all_more (λ (share : PersonShare Tests). IsPersonOn input shown_by share.person) (record { person = here.0; weight = part.weight }) rest.0 here.1.is_person rest.1.choose_best;
            use_listed = all_more (λ (share : PersonShare Tests). UsesListedPatches input p share.person) (record { person = here.0; weight = part.weight }) rest.0 (listed_uses Tests shown_by here.0 part.patches here.1) rest.1.use_listed;
            utilities = all_more (λ (share : PersonShare Tests). HasUtility input share.person) (record { person = here.0; weight = part.weight }) rest.0 here.2 rest.1.utilities;
            same = λ i l. same_weight Tests shown_by here.0 part.patches part.weight rest.0 parts i here.1 l (rest.1.same i l);
            total = same_total Tests shown_by here.0 part.patches part.weight rest.0 parts rest.1.total;
          },
        )

    pub persons_make : HasMixture p → SomeWithUtilitiesMakeChoices input p
    persons_make (den, parts, is) =
        let r = persons_of parts is.kinds in (
          den,
          r.0,
          record { fraction = is.fraction; choose_best = r.1.choose_best; use_listed = r.1.use_listed; exact = λ i l. r.1.same i l ∙ is.exact i l },
          r.1.utilities,
        )

    persons_in_part : (den : ℕ) (parts : List Share) → IsPartialMixture p den parts
        → (persons : List (PersonShare Tests)) × MakePartOfChoices input p shown_by den persons × HaveUtilities input persons × (weight_of_persons persons ≡ weight_of parts)
    persons_in_part den parts is =
        let r = persons_of parts is.kinds in (
          r.0,
          record { fraction = is.fraction; choose_best = r.1.choose_best; use_listed = r.1.use_listed; within = λ i l. omega (arith, r.1.same i l, is.within i l) },
          r.1.utilities,
          r.1.total,
        )

  -- ---- from persons to types

  module _ (Names : Type 0) (prefers : Names → FractionBundle → FractionBundle → Type 0) where
    record IsUsedOn (person : Person Names) (j i : ℕ) : Type 0 where
      inside : i < length p.patches
      on_budget : budget_at p i ≡ j
      used : IsTrue (uses_patch input p person i)

    module _ (person : Person Names) (is : IsPersonOn input prefers person) (listed : UsesListedPatches input p person) where
      picked : (f : ℕ → ℕ) × ((j : ℕ) → j < input.budgets → IsUsedOn person j (f j))
      picked = choose input.budgets (IsUsedOn person) (λ j l. let r = listed j l in (r.0, record { inside = r.1; on_budget = r.2; used = r.3 }))

      own_type : List ℕ
      own_type = map picked.0 (range_with_len 0 p.budgets)

      own_at : (j : ℕ) → j < p.budgets → slice_index own_type j ≡ picked.0 j
      unfolding own_type
      own_at j l = get_or-map-range_with_len picked.0 0 p.budgets j j 0 l (omega arith)

      own_used : (j : ℕ) → j < p.budgets → IsUsedOn person j (slice_index own_type j)
      own_used j l = subst (λ (i : ℕ). IsUsedOn person j i) (sym (own_at j l)) (picked.1 j (omega (arith, l, budgets)))

      own_length : length own_type ≡ p.budgets
      unfolding own_type
      own_length = length-map-range_with_len picked.0 0 p.budgets

      own_is : IsTypeOf input p person.bundle own_type
      own_is = record {
        type_is = record {
          one_each = own_length;
          patch = λ j l. (own_used j l).inside;
          on_its_budget = λ j l. (own_used j l).on_budget;
        };
        alike = λ j l.
            let i = slice_index own_type j in
            let u = own_used j (omega (arith, l, budgets)) in
            subst (λ (b : ℕ). signs_of_bundle input (person.bundle b) ≡ (patch_at p i).signs) u.on_budget
            ((signed_items (signs_of_bundle input (person.bundle (budget_at p i))) (patch_at p i).signs).0 u.used);
      }

      own_rational : IsRationalType p own_type
      own_rational =
          rational_of_axiom input p budgets person.bundle own_type own_is
          (meets_axiom (choices_by input person.bundle) is.bundles (prefers person.name) is.preference is.best)

      own_has : HasThisType Names prefers person own_type
      own_has = record { rational = own_rational; type_of = own_is; is_person = is }

    record AreTypesOf (persons : List (PersonShare Names)) (parts : List Share) : Type 0 where
      kinds : (part : Share) → Contains parts part → IsRationalType p part.patches
      same : (i : ℕ) → i < length p.patches → weight_of_users input p persons i ≡ weight_using (types_on p) parts i
      total : weight_of_persons persons ≡ weight_of parts

    types_of : (persons : List (PersonShare Names)) → ((share : PersonShare Names) → Contains persons share → IsPersonOn input prefers share.person)
        → ((share : PersonShare Names) → Contains persons share → UsesListedPatches input p share.person) → (parts : List Share) × AreTypesOf persons parts
    types_of [] best listed = ([], record { kinds = all_empty (λ (part : Share). IsRationalType p part.patches); same = λ i l. refl; total = refl })
    types_of (share ∷ persons) best listed =
        let is = first_of_all (λ (share : PersonShare Names). IsPersonOn input prefers share.person) share persons best in
        let uses_them = first_of_all (λ (share : PersonShare Names). UsesListedPatches input p share.person) share persons listed in
        let type = own_type share.person is uses_them in
        let has = own_has share.person is uses_them in
        let rest = types_of persons (rest_of_all (λ (share : PersonShare Names). IsPersonOn input prefers share.person) share persons best)
        (rest_of_all (λ (share : PersonShare Names). UsesListedPatches input p share.person) share persons listed) in (
          record { patches = type; weight = share.weight } ∷ rest.0,
          record {
            kinds = all_more (λ (part : Share). IsRationalType p part.patches) (record { patches = type; weight = share.weight }) rest.0 has.rational rest.1.kinds;
            same = λ i l. same_weight Names prefers share.person type share.weight persons rest.0 i has l (rest.1.same i l);
            total = same_total Names prefers share.person type share.weight persons rest.0 rest.1.total;
          },
        )

    pub types_make : (den : ℕ) (persons : List (PersonShare Names)) → MakeChoices input p prefers den persons → HasMixture p
    types_make den persons are =
        let r = types_of persons are.choose_best are.use_listed in
        (den, r.0, record { fraction = are.fraction; kinds = r.1.kinds; exact = λ i l. sym (r.1.same i l) ∙ are.exact i l })

    types_in_part : (den : ℕ) (persons : List (PersonShare Names)) → MakePartOfChoices input p prefers den persons → (parts : List Share) × IsPartialMixture p den parts × (weight_of_persons persons ≡ weight_of parts)
    types_in_part den persons are =
        let r = types_of persons are.choose_best are.use_listed in
        (r.0, record { fraction = are.fraction; kinds = r.1.kinds; within = λ i l. omega (arith, r.1.same i l, are.within i l) }, r.1.total)

  pub shares_same : IsFullRandomInput input → (num den : ℕ) → IsGreatestShare p num den ↔ IsGreatestShareOfPersons input p num den
  shares_same full num den = (
    λ is. record {
      fraction = is.fraction;
      reached =
          let at = is.reached in
          let r = persons_in_part full at.0 at.1 at.2 in
          (at.0, r.0, r.1, r.2, ap (λ w. w * den) r.3 ∙ at.3);
      no_greater = λ d persons are.
          let r = types_in_part Tests shown_by d persons are in
          subst (λ w. w * den ≤ num * (d * p.total)) (sym r.2) (is.no_greater d r.0 r.1);
    },
    λ is. record {
      fraction = is.fraction;
      reached =
          let at = is.reached in
          let r = types_in_part Tests shown_by at.0 at.1 at.2 in
          (at.0, r.0, r.1, ap (λ w. w * den) (sym r.2) ∙ at.4);
      no_greater = λ d parts are.
          let r = persons_in_part full d parts are in
          subst (λ w. w * den ≤ num * (d * p.total)) r.3 (is.no_greater d r.0 r.1);
    },
  )

pub mixtures_of_persons : (input : RandomInput) (asked : Option ℕ) (p : PatchList) → IsFullRandomInput input → ArePatchesOf input asked p → IsPatchList p
    → (HasMixture p → SomeWithUtilitiesMakeChoices input p) × (SomePersonsMakeChoices input p → HasMixture p)
mixtures_of_persons input asked p full are valid =
    let firsts = numbered input asked p are in
    (persons_make input p are.budgets firsts valid full, λ some. types_make input p are.budgets firsts valid Tests shown_by some.0 some.1 some.2)

pub shares_of_persons : (input : RandomInput) (asked : Option ℕ) (p : PatchList) → IsFullRandomInput input → ArePatchesOf input asked p → IsPatchList p
    → (num den : ℕ) → IsGreatestShare p num den ↔ IsGreatestShareOfPersons input p num den
shares_of_persons input asked p full are valid = shares_same input p are.budgets (numbered input asked p are) valid full

pub with_utilities_make : (input : RandomInput) (p : PatchList) → SomeWithUtilitiesMakeChoices input p → SomePersonsMakeChoices input p
with_utilities_make input p (den, persons, make, have) = (den, persons, make)

-- ---- persons of any preferences

module _ (input : RandomInput) (asked : Option ℕ) (p : PatchList) (are : ArePatchesOf input asked p) (valid : IsPatchList p) (prefers : ℕ → FractionBundle → FractionBundle → Type 0) where
  pub any_make : (den : ℕ) (persons : List (PersonShare ℕ)) → MakeChoices input p prefers den persons → HasMixture p
  any_make = types_make input p are.budgets (numbered input asked p are) valid ℕ prefers

  pub any_make_at_most : (num den : ℕ) → IsGreatestShare p num den → MakeAtMost input p prefers num den
  any_make_at_most num den is d persons makes =
      let r = types_in_part input p are.budgets (numbered input asked p are) valid ℕ prefers d persons makes in
      subst (λ w. w * den ≤ num * (d * p.total)) (sym r.2) (is.no_greater d r.0 r.1)
