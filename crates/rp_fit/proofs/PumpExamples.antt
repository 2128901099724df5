-- The definitions, tried at small tables. A table stands as its costs: a row for each observation's prices.
use Rattle.std.proofs.Common.{◌≡◌, ◌≢◌, ◌<◌, ℕ, zero, suc, List, [], ◌∷◌, refl, arith, slice_index, slice_index_or}
use Rattle.std.proofs.lemmas.Int.{ints}
use Rattle.std.specs.Prelude.{ℤ, pos, negsuc, ◌+ℤ◌, ◌≤ℤ◌}
use Rattle.rp_evidence.specs.Preference.{IsWeak}
use Rattle.rp_evidence.specs.Walk.{IsClosedWalk}
use Rattle.rp_fit.specs.MoneyPump.{HasPumpRatio, IsPumpIndex, walk_gain, walk_spent}
use Rattle.rp_fit.specs.PumpTotals.{excess, walk_total}
use Rattle.rp_fit.proofs.PumpIndex.{none_greater}

abbrev costs : List (List ℕ) → ℕ → ℕ → ℕ
costs rows s t = slice_index (slice_index_or rows s []) t

-- ---- two observations that contradict each other: 2 of 10

abbrev contradiction : ℕ → ℕ → ℕ
contradiction = costs ((5 ∷ 4 ∷ []) ∷ (4 ∷ 5 ∷ []) ∷ [])

contradiction_gains : walk_gain contradiction (0 ∷ 1 ∷ 0 ∷ []) ≡ pos 2
contradiction_gains = refl

contradiction_spends : walk_spent contradiction (0 ∷ 1 ∷ 0 ∷ []) ≡ 10
contradiction_spends = refl

contradiction_has_a_fifth : HasPumpRatio contradiction 1 5 (0 ∷ 1 ∷ 0 ∷ [])
contradiction_has_a_fifth = refl

-- gone round twice it has the same ratio, and a step from an observation to itself makes it less
twice_has_a_fifth : HasPumpRatio contradiction 1 5 (0 ∷ 1 ∷ 0 ∷ 1 ∷ 0 ∷ [])
twice_has_a_fifth = refl

resting_has_two_fifteenths : HasPumpRatio contradiction 2 15 (0 ∷ 0 ∷ 1 ∷ 0 ∷ [])
resting_has_two_fifteenths = refl

staying_has_none : HasPumpRatio contradiction 0 1 (0 ∷ 0 ∷ [])
staying_has_none = refl

nothing_is_left : walk_total contradiction 1 5 (0 ∷ 1 ∷ 0 ∷ []) ≡ pos 0
nothing_is_left = refl

-- ---- three observations of which no two contradict each other: 3 of 6, and no walk of two steps has as much

round_of_three : ℕ → ℕ → ℕ
round_of_three = costs ((2 ∷ 1 ∷ 3 ∷ []) ∷ (3 ∷ 2 ∷ 1 ∷ []) ∷ (1 ∷ 3 ∷ 2 ∷ []) ∷ [])

round_has_a_half : HasPumpRatio round_of_three 1 2 (0 ∷ 1 ∷ 2 ∷ 0 ∷ [])
unfolding round_of_three
round_has_a_half = refl

round_is_closed : IsClosedWalk 3 (IsWeak round_of_three) (0 ∷ 1 ∷ 2 ∷ 0 ∷ [])
unfolding round_of_three
round_is_closed = (0, (refl, (omega arith, omega arith, (omega arith, omega arith, (omega arith, omega arith, (omega arith, refl))))), omega arith)

no_way_back : ¬ (IsWeak round_of_three 1 0)
unfolding round_of_three
no_way_back h = absurd (omega arith)

no_value : ℕ → ℤ
no_value s = pos 0

round_index : IsPumpIndex 3 round_of_three 1 2
unfolding round_of_three no_value
round_index = record {
  positive = omega arith;
  reached = (0 ∷ 1 ∷ 2 ∷ 0 ∷ [], round_is_closed, round_has_a_half);
  greatest = none_greater 3 round_of_three 1 2 no_value bounds;
}
  where
    bounds : (s t : ℕ) → s < 3 → t < 3 → s ≢ t → IsWeak round_of_three s t → no_value t ≤ℤ (no_value s +ℤ excess round_of_three 1 2 s t)
    bounds zero zero hs ht d weak = absurd (d refl)
    bounds zero (suc zero) hs ht d weak = omega (arith, ints)
    bounds zero (suc (suc zero)) hs ht d weak = omega (arith, ints)
    bounds (suc zero) zero hs ht d weak = omega (arith, ints)
    bounds (suc zero) (suc zero) hs ht d weak = absurd (d refl)
    bounds (suc zero) (suc (suc zero)) hs ht d weak = omega (arith, ints)
    bounds (suc (suc zero)) zero hs ht d weak = omega (arith, ints)
    bounds (suc (suc zero)) (suc zero) hs ht d weak = omega (arith, ints)
    bounds (suc (suc zero)) (suc (suc zero)) hs ht d weak = absurd (d refl)
    bounds (suc (suc (suc s))) t hs ht d weak = absurd (omega arith)
    bounds zero (suc (suc (suc t))) hs ht d weak = absurd (omega arith)
    bounds (suc zero) (suc (suc (suc t))) hs ht d weak = absurd (omega arith)
    bounds (suc (suc zero)) (suc (suc (suc t))) hs ht d weak = absurd (omega arith)

-- ---- a closed walk of which one step gains nothing in proportion: 10 of 60, with the values 0 and -20

mixed : ℕ → ℕ → ℕ
mixed = costs ((10 ∷ 5 ∷ []) ∷ (45 ∷ 50 ∷ []) ∷ [])

mixed_has_a_sixth : HasPumpRatio mixed 1 6 (0 ∷ 1 ∷ 0 ∷ [])
unfolding mixed
mixed_has_a_sixth = refl

mixed_total : walk_total mixed 1 6 (0 ∷ 1 ∷ []) ≡ negsuc 19
unfolding mixed
mixed_total = refl

mixed_value : ℕ → ℤ
mixed_value zero = pos 0
mixed_value (suc s) = negsuc 19

mixed_index : IsPumpIndex 2 mixed 1 6
unfolding mixed mixed_value
mixed_index = record {
  positive = omega arith;
  reached = (0 ∷ 1 ∷ 0 ∷ [], (0, (refl, (omega arith, omega arith, (omega arith, omega arith, (omega arith, refl)))), omega arith), refl);
  greatest = none_greater 2 mixed 1 6 mixed_value bounds;
}
  where
    bounds : (s t : ℕ) → s < 2 → t < 2 → s ≢ t → IsWeak mixed s t → mixed_value t ≤ℤ (mixed_value s +ℤ excess mixed 1 6 s t)
    bounds zero zero hs ht d weak = absurd (d refl)
    bounds zero (suc zero) hs ht d weak = omega (arith, ints)
    bounds (suc zero) zero hs ht d weak = omega (arith, ints)
    bounds (suc zero) (suc zero) hs ht d weak = absurd (d refl)
    bounds (suc (suc s)) t hs ht d weak = absurd (omega arith)
    bounds zero (suc (suc t)) hs ht d weak = absurd (omega arith)
    bounds (suc zero) (suc (suc t)) hs ht d weak = absurd (omega arith)
