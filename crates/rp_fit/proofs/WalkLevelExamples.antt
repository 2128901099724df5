-- The quasilinear and the homothetic level, tried at two observations that contradict each other (four fifths) and at
-- three that do only together (a half).
use Rattle.std.proofs.Common.{◌<◌, ◌≤◌, ◌*◌, ℕ, zero, suc, List, [], ◌∷◌, refl, arith, slice_index, slice_index_or}
use Rattle.std.proofs.lemmas.Int.{ints}
use Rattle.std.specs.Prelude.{pos, ◌+ℤ◌, ◌≤ℤ◌}
use Rattle.rp_evidence.specs.Walk.{AnyStep, IsClosedWalk}
use Rattle.rp_fit.specs.HomotheticLevel.{HomotheticLevelIsAtLeast, HomotheticLevelIsAtMost}
use Rattle.rp_fit.specs.QuasilinearLevel.{IsQuasilinearLevel}
use Rattle.rp_fit.proofs.BoundingValues.{costs_part_by_values, level_by_values}

abbrev costs : List (List ℕ) → ℕ → ℕ → ℕ
costs rows s t = slice_index (slice_index_or rows s []) t

abbrev contradiction : ℕ → ℕ → ℕ
contradiction = costs ((5 ∷ 4 ∷ []) ∷ (4 ∷ 5 ∷ []) ∷ [])

there_and_back : IsClosedWalk 2 AnyStep (0 ∷ 1 ∷ 0 ∷ [])
there_and_back = (0, (refl, (omega arith, tt, (omega arith, tt, (omega arith, refl)))), omega arith)

-- ---- the two next bundles cost 8, and 10 were spent

quasilinear_level : IsQuasilinearLevel 2 contradiction 4 5
quasilinear_level = record {
  positive = omega arith;
  reached = (0 ∷ 1 ∷ 0 ∷ [], there_and_back, refl);
  least = costs_part_by_values 2 contradiction 4 5 (λ s. pos 0) bounds;
}
  where
    bounds : (s t : ℕ) → s < 2 → t < 2 → (pos 0 +ℤ pos (4 * contradiction s s)) ≤ℤ (pos 0 +ℤ pos (5 * contradiction s t))
    bounds zero zero a b = omega (arith, ints)
    bounds zero (suc zero) a b = omega (arith, ints)
    bounds (suc zero) zero a b = omega (arith, ints)
    bounds (suc zero) (suc zero) a b = omega (arith, ints)
    bounds zero (suc (suc t)) a b = absurd (omega arith)
    bounds (suc zero) (suc (suc t)) a b = absurd (omega arith)
    bounds (suc (suc s)) t a b = absurd (omega arith)

-- ---- sixteen twenty-fifths are the square of four fifths

homothetic_level_at_least : HomotheticLevelIsAtLeast 2 contradiction 4 5
homothetic_level_at_least = level_by_values 2 contradiction 4 5 (λ s. 1) bounds (λ s l. omega arith)
  where
    bounds : (s t : ℕ) → s < 2 → t < 2 → (1 * 4) * contradiction s s ≤ (1 * contradiction s t) * 5
    bounds zero zero a b = omega arith
    bounds zero (suc zero) a b = omega arith
    bounds (suc zero) zero a b = omega arith
    bounds (suc zero) (suc zero) a b = omega arith
    bounds zero (suc (suc t)) a b = absurd (omega arith)
    bounds (suc zero) (suc (suc t)) a b = absurd (omega arith)
    bounds (suc (suc s)) t a b = absurd (omega arith)

homothetic_level_at_most : HomotheticLevelIsAtMost 2 contradiction 4 5
homothetic_level_at_most = (0 ∷ 1 ∷ 0 ∷ [], there_and_back, omega arith)

-- a walk that stays where it is once has three steps and a greater mean: the cube of four fifths is below 80 of 125
longer_walk_has_more : ¬ (5 * (5 * (5 * (5 * (4 * 4)))) ≤ 4 * (4 * (4 * (5 * (5 * 5)))))
longer_walk_has_more h = absurd (omega (arith, h))

-- ---- three observations that contradict each other only together: of 6 spent the next bundles cost 3, and 1/8 is the
-- cube of a half

abbrev round_of_three : ℕ → ℕ → ℕ
round_of_three = costs ((2 ∷ 1 ∷ 3 ∷ []) ∷ (3 ∷ 2 ∷ 1 ∷ []) ∷ (1 ∷ 3 ∷ 2 ∷ []) ∷ [])

all_round : IsClosedWalk 3 AnyStep (0 ∷ 1 ∷ 2 ∷ 0 ∷ [])
all_round = (0, (refl, (omega arith, tt, (omega arith, tt, (omega arith, tt, (omega arith, refl))))), omega arith)

round_quasilinear_level : IsQuasilinearLevel 3 round_of_three 1 2
round_quasilinear_level = record {
  positive = omega arith;
  reached = (0 ∷ 1 ∷ 2 ∷ 0 ∷ [], all_round, refl);
  least = costs_part_by_values 3 round_of_three 1 2 (λ s. pos 0) bounds;
}
  where
    bounds : (s t : ℕ) → s < 3 → t < 3 → (pos 0 +ℤ pos (1 * round_of_three s s)) ≤ℤ (pos 0 +ℤ pos (2 * round_of_three s t))
    bounds zero zero a b = omega (arith, ints)
    bounds zero (suc zero) a b = omega (arith, ints)
    bounds zero (suc (suc zero)) a b = omega (arith, ints)
    bounds (suc zero) zero a b = omega (arith, ints)
    bounds (suc zero) (suc zero) a b = omega (arith, ints)
    bounds (suc zero) (suc (suc zero)) a b = omega (arith, ints)
    bounds (suc (suc zero)) zero a b = omega (arith, ints)
    bounds (suc (suc zero)) (suc zero) a b = omega (arith, ints)
    bounds (suc (suc zero)) (suc (suc zero)) a b = omega (arith, ints)
    bounds zero (suc (suc (suc t))) a b = absurd (omega arith)
    bounds (suc zero) (suc (suc (suc t))) a b = absurd (omega arith)
    bounds (suc (suc zero)) (suc (suc (suc t))) a b = absurd (omega arith)
    bounds (suc (suc (suc s))) t a b = absurd (omega arith)

round_homothetic_level_at_least : HomotheticLevelIsAtLeast 3 round_of_three 1 2
round_homothetic_level_at_least = level_by_values 3 round_of_three 1 2 (λ s. 1) bounds (λ s l. omega arith)
  where
    bounds : (s t : ℕ) → s < 3 → t < 3 → (1 * 1) * round_of_three s s ≤ (1 * round_of_three s t) * 2
    bounds zero zero a b = omega arith
    bounds zero (suc zero) a b = omega arith
    bounds zero (suc (suc zero)) a b = omega arith
    bounds (suc zero) zero a b = omega arith
    bounds (suc zero) (suc zero) a b = omega arith
    bounds (suc zero) (suc (suc zero)) a b = omega arith
    bounds (suc (suc zero)) zero a b = omega arith
    bounds (suc (suc zero)) (suc zero) a b = omega arith
    bounds (suc (suc zero)) (suc (suc zero)) a b = omega arith
    bounds zero (suc (suc (suc t))) a b = absurd (omega arith)
    bounds (suc zero) (suc (suc (suc t))) a b = absurd (omega arith)
    bounds (suc (suc zero)) (suc (suc (suc t))) a b = absurd (omega arith)
    bounds (suc (suc (suc s))) t a b = absurd (omega arith)

round_homothetic_level_at_most : HomotheticLevelIsAtMost 3 round_of_three 1 2
round_homothetic_level_at_most = (0 ∷ 1 ∷ 2 ∷ 0 ∷ [], all_round, omega arith)
