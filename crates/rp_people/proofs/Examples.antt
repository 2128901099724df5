-- The definitions at small tables: a preference that rationalizes two choices that are weakly preferred to each other,
-- none for a contradiction of three steps, and a constant answer is no preference.
use Rattle.std.proofs.Common.{ℕ, zero, suc, ◌*◌, ◌<◌, ◌↔◌, inl, List, [], ◌∷◌, refl, arith, slice_index, slice_index_or}
use Rattle.std.proofs.lemmas.Int.{ints}
use Rattle.std.specs.Prelude.{ℤ, pos, ◌*ℤ◌, ◌≤ℤ◌, nat_le}
use Rattle.rp_table.specs.Spending.{spending}
use Rattle.rp_evidence.specs.Demand.{FractionBundle}
use Rattle.rp_evidence.specs.Afriat.{allowed_for_by}
use Rattle.rp_people.specs.AfriatUtility.{IsModelOfChoices, scaled_cost}
use Rattle.rp_people.specs.Bundles.{IsBundle}
use Rattle.rp_people.specs.Choices.{Choices, IsStrictChoice, IsWeakChoice, MeetAxiom}
use Rattle.rp_people.specs.Preferences.{IsPreference, shown_by}
use Rattle.rp_people.specs.Rationalizing.{HasNonsatiatedPreference, HasPreference, Rationalizes}
use Rattle.rp_people.proofs.Chains.{meets_axiom}
use Rattle.rp_people.proofs.FactsOfPreferences.{by, by_is_preference, more_size, same_size, size, test}
use Rattle.rp_people.proofs.Orders.{preference_same, rationalizes_same}
use Rattle.rp_people.proofs.Rooms.{preference_is_nonsatiated}

abbrev entry : List (List ℕ) → ℕ → ℕ → ℕ
entry rows s g = slice_index (slice_index_or rows s []) g

-- whole bundles at prices, held to all that was spent
abbrev told : ℕ → ℕ → List (List ℕ) → List (List ℕ) → Choices
told n goods prices quantities = record {
  n = n;
  goods = goods;
  price = entry prices;
  bundle = λ s. record { den = 1; num = entry quantities s };
  scale = 1;
  own = λ s. spending goods (entry prices s) (entry quantities s);
}

-- ---- a constant answer is no preference

constant_is_none : (goods : ℕ) (answer : Type 0) → ¬ IsPreference goods (λ x y. answer)
constant_is_none goods answer is =
    let more = is.monotone (record { den = 1; num = λ g. 1 }) (record { den = 1; num = λ g. 0 }) (omega arith) (omega arith) (λ g l. omega arith) in
    more.1 more.0

-- ---- (1, 1) twice, with 2 of the one good and then 2 of the other: each is weakly preferred to the other, and none
-- strictly

abbrev either : Choices
either = told 2 2 ((1 ∷ 1 ∷ []) ∷ (1 ∷ 1 ∷ []) ∷ []) ((2 ∷ 0 ∷ []) ∷ (0 ∷ 2 ∷ []) ∷ [])

weak_there : IsWeakChoice either 0 1
weak_there = omega arith

weak_back : IsWeakChoice either 1 0
weak_back = omega arith

not_strict : ¬ IsStrictChoice either 0 1
not_strict h = omega (arith, h)

-- who looks at the sum of both goods alone rationalizes them, and who looks at the first good does not
by_size_rationalizes : Rationalizes either (by size)
by_size_rationalizes zero l x ix h = (test _ _).1 (omega (arith, h))
by_size_rationalizes (suc zero) l x ix h = (test _ _).1 (omega (arith, h))
by_size_rationalizes (suc (suc s)) l x ix h = absurd (omega arith)

by_size_shown : (x y : FractionBundle) → by size x y ↔ shown_by (λ x y evidence. nat_le (size y * x.den) (size x * y.den)) x y
by_size_shown x y = (λ h. (λ k. 0, h), λ h. h.1)

some_preference : HasPreference either
some_preference = record {
  passes = λ x y evidence. nat_le (size y * x.den) (size x * y.den);
  preference = preference_same (by size) _ by_size_shown 2 (by_is_preference size 2 same_size more_size);
  rationalizes = rationalizes_same (by size) _ by_size_shown either by_size_rationalizes;
}

first_alone : ¬ Rationalizes either (by (λ x. x.num 0))
first_alone rationalizes =
    let e = rationalizes 1 (omega arith) (record { den = 1; num = entry ((1 ∷ 1 ∷ []) ∷ []) 0 }) (omega arith) (omega arith) in
    absurd cc

either_meets : MeetAxiom either
either_meets =
    meets_axiom either bundles (by size) (preference_is_nonsatiated 2 (by size) (by_is_preference size 2 same_size more_size)) by_size_rationalizes
  where
    bundles : (s : ℕ) → s < 2 → IsBundle (either.bundle s)
    bundles s l = omega arith

-- ---- numbers of an Afriat model of the two: 0 for both, with multipliers above 0, and not more for the first

abbrev first_has : ℕ → ℕ → ℤ
first_has k zero = pos k
first_has k (suc s) = pos 0

zeros_are_a_model : IsModelOfChoices either (first_has 0) (λ s. 1)
zeros_are_a_model = record { at_least_one = λ s l. omega arith; none_above = none }
  where
    none : (s t : ℕ) → s < 2 → t < 2 → (pos 1 *ℤ first_has 0 t) ≤ℤ allowed_for_by either.own (first_has 0) (λ s. 1) 1 (scaled_cost either (either.bundle t)) s
    none zero zero a b = omega (arith, ints)
    none zero (suc zero) a b = omega (arith, ints)
    none (suc zero) zero a b = omega (arith, ints)
    none (suc zero) (suc zero) a b = omega (arith, ints)
    none (suc (suc s)) t a b = absurd (omega arith)
    none zero (suc (suc t)) a b = absurd (omega arith)
    none (suc zero) (suc (suc t)) a b = absurd (omega arith)

multipliers_are_positive : ¬ IsModelOfChoices either (first_has 0) (λ s. 0)
multipliers_are_positive is = let l = is.at_least_one 0 (omega arith) in absurd (omega (arith, l))

one_above_is_none : ¬ IsModelOfChoices either (first_has 1) (λ s. 1)
one_above_is_none is = let l = is.none_above 1 0 (omega arith) (omega arith) in absurd (omega (arith, ints, l))

-- ---- (2, 1, 3), (3, 2, 1), (1, 3, 2) with one of the first, the second and the third good: each is strictly preferred
-- to the next, and no preference rationalizes them

abbrev around : Choices
around = told 3 3 ((2 ∷ 1 ∷ 3 ∷ []) ∷ (3 ∷ 2 ∷ 1 ∷ []) ∷ (1 ∷ 3 ∷ 2 ∷ []) ∷ []) ((1 ∷ 0 ∷ 0 ∷ []) ∷ (0 ∷ 1 ∷ 0 ∷ []) ∷ (0 ∷ 0 ∷ 1 ∷ []) ∷ [])

around_contradicts : ¬ MeetAxiom around
around_contradicts meets =
    meets (0 ∷ 1 ∷ 2 ∷ 0 ∷ []) ((0, (refl, (omega arith, omega arith, (omega arith, omega arith, (omega arith, omega arith, (omega arith, refl))))), omega arith), inl (omega arith))

no_preference : ¬ HasNonsatiatedPreference around
no_preference has = around_contradicts (meets_axiom around (λ s l. omega arith) (shown_by has.passes) has.fits.preference has.fits.rationalizes)
