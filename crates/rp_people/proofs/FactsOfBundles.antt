-- Worked values that hold the definitions of bundles, of what they cost and of fractions in place: one of them fails where
-- a definition is weaker or stronger by a word.
use Rattle.std.proofs.Common.{◌≡◌, ℕ, zero, suc, ◌*◌, ◌<◌, ◌≤◌, List, [], ◌∷◌, refl, arith, slice_index}
use Rattle.std.proofs.lemmas.Int.{ints}
use Rattle.std.specs.Prelude.{ℤ, pos, negsuc}
use Rattle.rp_evidence.specs.Demand.{FractionBundle}
use Rattle.rp_people.specs.Bundles.{AreEqualInValue, AreWithin, CostsAtMost, CostsLess, HasMoreOfEveryGood, HasMoreOfSomeGood, IsBundle, mixture, multiple}
use Rattle.rp_people.specs.Choices.{Choices, IsAffordable, IsCheaper, IsStrictChoice, IsWeakChoice}
use Rattle.rp_people.specs.Fractions.{AreEqual, IsAtMost, IsBelow, SignedFraction, average, less, times}

-- so much of each good, over one denominator
abbrev pub over : ℕ → List ℕ → FractionBundle
over den parts = record { den = den; num = slice_index parts }

-- ---- a bundle, and equality in value

nothing_over_nothing : ¬ IsBundle (over 0 (1 ∷ []))
nothing_over_nothing h = absurd (omega (arith, h))

-- 1/2 is 2/4, and not 1/4
equal_halves : AreEqualInValue 1 (over 2 (1 ∷ [])) (over 4 (2 ∷ []))
equal_halves zero l = refl
equal_halves (suc g) l = absurd (omega arith)

half_and_quarter : ¬ AreEqualInValue 1 (over 2 (1 ∷ [])) (over 4 (1 ∷ []))
half_and_quarter same = let e = same 0 (omega arith) in absurd (omega (arith, e))

-- each good counts, and no other
second_differs : ¬ AreEqualInValue 2 (over 1 (1 ∷ 1 ∷ [])) (over 1 (1 ∷ 2 ∷ []))
second_differs same = let e = same 1 (omega arith) in absurd (omega (arith, e))

no_second_good : AreEqualInValue 1 (over 1 (1 ∷ 1 ∷ [])) (over 1 (1 ∷ 2 ∷ []))
no_second_good zero l = refl
no_second_good (suc g) l = absurd (omega arith)

-- ---- more of every good, and of one

more_of_both : HasMoreOfEveryGood 2 (over 2 (3 ∷ 3 ∷ [])) (over 1 (1 ∷ 1 ∷ []))
more_of_both zero l = omega arith
more_of_both (suc zero) l = omega arith
more_of_both (suc (suc g)) l = absurd (omega arith)

one_alone : ¬ HasMoreOfEveryGood 2 (over 1 (2 ∷ 1 ∷ [])) (over 1 (1 ∷ 1 ∷ []))
one_alone more = let m = more 1 (omega arith) in absurd (omega (arith, m))

pub more_of_one : HasMoreOfSomeGood 2 (over 1 (2 ∷ 1 ∷ [])) (over 1 (1 ∷ 1 ∷ []))
more_of_one = record { no_less = no_less; good = 0; among = omega arith; more = omega arith }
  where
    no_less : (g : ℕ) → g < 2 → slice_index (1 ∷ 1 ∷ []) g * 1 ≤ slice_index (2 ∷ 1 ∷ []) g * 1
    no_less zero l = omega arith
    no_less (suc zero) l = omega arith
    no_less (suc (suc g)) l = absurd (omega arith)

less_of_another : ¬ HasMoreOfSomeGood 2 (over 1 (2 ∷ 0 ∷ [])) (over 1 (1 ∷ 1 ∷ []))
less_of_another is = let l = is.no_less 1 (omega arith) in absurd (omega (arith, l))

more_than_itself : (goods : ℕ) (x : FractionBundle) → ¬ HasMoreOfSomeGood goods x x
more_than_itself goods x is = let l = is.more in absurd (omega (arith, l))

-- ---- 1 and 3/2 are 1/2 apart, and more than 1/3, in either order

half_apart : AreWithin 1 (over 1 (1 ∷ [])) (over 2 (3 ∷ [])) 1 2
half_apart zero l = (omega arith, omega arith)
half_apart (suc g) l = absurd (omega arith)

no_third_below : ¬ AreWithin 1 (over 1 (1 ∷ [])) (over 2 (3 ∷ [])) 1 3
no_third_below near = let l = (near 0 (omega arith)).1 in absurd (omega (arith, l))

no_third_above : ¬ AreWithin 1 (over 2 (3 ∷ [])) (over 1 (1 ∷ [])) 1 3
no_third_above near = let l = (near 0 (omega arith)).0 in absurd (omega (arith, l))

-- ---- 4/2 of a good at the price 3 cost 6

cost_six : CostsAtMost 1 (λ g. 3) (over 2 (4 ∷ [])) 6 1
cost_six = omega arith

not_less_than_six : ¬ CostsLess 1 (λ g. 3) (over 2 (4 ∷ [])) 6 1
not_less_than_six l = absurd (omega (arith, l))

less_than_six_and_a_half : CostsLess 1 (λ g. 3) (over 2 (4 ∷ [])) 13 2
less_than_six_and_a_half = omega arith

more_than_five_and_a_half : ¬ CostsAtMost 1 (λ g. 3) (over 2 (4 ∷ [])) 11 2
more_than_five_and_a_half l = absurd (omega (arith, l))

-- ---- multiples and mixtures: 3/2 of 2/3 are 1, and 3 parts of 4 with 1 of nothing are 3

three_halves : AreEqualInValue 1 (multiple 3 2 (over 3 (2 ∷ []))) (over 1 (1 ∷ []))
three_halves zero l = refl
three_halves (suc g) l = absurd (omega arith)

three_quarters : AreEqualInValue 1 (mixture 3 1 (over 1 (4 ∷ [])) (over 2 (0 ∷ []))) (over 1 (3 ∷ []))
three_quarters zero l = refl
three_quarters (suc g) l = absurd (omega arith)

halfway : AreEqualInValue 2 (mixture 1 1 (over 1 (2 ∷ 0 ∷ [])) (over 2 (0 ∷ 4 ∷ []))) (over 1 (1 ∷ 1 ∷ []))
halfway zero l = refl
halfway (suc zero) l = refl
halfway (suc (suc g)) l = absurd (omega arith)

-- ---- a choice of 2 at the price 1, held to 5/2: a scale above 1

abbrev held : Choices
held = record {
  n = 1;
  goods = 1;
  price = λ s g. 1;
  bundle = λ s. over 1 (2 ∷ []);
  scale = 2;
  own = λ s. 5;
}

affords_what_it_is_held_to : IsAffordable held 0 (over 2 (5 ∷ []))
affords_what_it_is_held_to = omega arith

no_cheaper : ¬ IsCheaper held 0 (over 2 (5 ∷ []))
no_cheaper l = absurd (omega (arith, l))

affords_no_three : ¬ IsAffordable held 0 (over 1 (3 ∷ []))
affords_no_three l = absurd (omega (arith, l))

its_own_is_cheaper : IsWeakChoice held 0 0 × IsStrictChoice held 0 0
its_own_is_cheaper = (omega arith, omega arith)

-- ---- fractions

abbrev pub ratio : ℤ → ℕ → SignedFraction
ratio num den = record { num = num; den = den }

minus_half_below_third : IsBelow (ratio (negsuc 0) 2) (ratio (pos 1) 3) × (¬ IsAtMost (ratio (pos 1) 3) (ratio (negsuc 0) 2))
minus_half_below_third = (omega (arith, ints), λ l. absurd (omega (arith, ints, l)))

halves_are_equal : AreEqual (ratio (pos 1) 2) (ratio (pos 2) 4) × IsAtMost (ratio (pos 1) 2) (ratio (pos 2) 4) × (¬ IsBelow (ratio (pos 1) 2) (ratio (pos 2) 4))
halves_are_equal = (refl, omega (arith, ints), λ l. absurd (omega (arith, ints, l)))

half_is_no_third : ¬ AreEqual (ratio (pos 1) 2) (ratio (pos 1) 3)
half_is_no_third e = absurd (omega (arith, ints, e))

test_of_halves : IsAtMost (ratio (pos 1) 2) (ratio (pos 2) 4) × (¬ IsAtMost (ratio (pos 1) 2) (ratio (pos 1) 3))
test_of_halves = (omega (arith, ints), λ l. absurd (omega (arith, ints, l)))

three_halves_of_minus_half : times 3 2 (ratio (negsuc 0) 2) ≡ ratio (negsuc 2) 4
three_halves_of_minus_half = refl

three_parts_of_four : AreEqual (average 3 1 (ratio (pos 4) 1) (ratio (pos 0) 2)) (ratio (pos 3) 1)
three_parts_of_four = refl

half_less_third : less (ratio (pos 1) 2) 1 3 ≡ ratio (pos 1) 6
half_less_third = refl
