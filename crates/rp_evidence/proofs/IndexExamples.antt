-- The efficiency index, tried at small tables. A table stands as its costs: a row for each observation's prices.
use Rattle.std.proofs.Common.{◌<◌, ◌*◌, ℕ, zero, suc, List, [], ◌∷◌, refl, inl, inr, arith, slice_index, slice_index_or}
use Rattle.rp_evidence.specs.Efficiency.{HasGreatestRatio, IsEfficiencyIndex}
use Rattle.rp_evidence.specs.Garp.{MeetsGarpAt}
use Rattle.rp_evidence.specs.Preference.{IsStrictAt, IsWeakAt}
use Rattle.rp_evidence.specs.Ranks.{OrderStrictSteps}
use Rattle.rp_evidence.specs.Walk.{IsClosedWalk}
use Rattle.rp_evidence.proofs.Index.{NoLowerCycle, index_by_cycle, index_is_one}
use Rattle.rp_evidence.proofs.Levels.{ordering_ranks_exclude, weak_cycle_violates}

abbrev costs : List (List ℕ) → ℕ → ℕ → ℕ
costs rows s t = slice_index (slice_index_or rows s []) t

-- ---- each observation would cost the other four fifths of what was spent

abbrev four_fifths : ℕ → ℕ → ℕ
four_fifths = costs ((5 ∷ 4 ∷ []) ∷ (4 ∷ 5 ∷ []) ∷ [])

four_fifths_cycle : IsClosedWalk 2 (IsWeakAt four_fifths 4 5) (0 ∷ 1 ∷ 0 ∷ [])
four_fifths_cycle = (0, (refl, (omega arith, omega arith, (omega arith, omega arith, (omega arith, refl)))), omega arith)

four_fifths_is_index : IsEfficiencyIndex 2 four_fifths 4 5
four_fifths_is_index = index_by_cycle 2 four_fifths positive 4 5 (0 ∷ 1 ∷ 0 ∷ []) (omega arith, omega arith) four_fifths_cycle none
  where
    positive : (s : ℕ) → s < 2 → 0 < four_fifths s s
    positive zero l = omega arith
    positive (suc zero) l = omega arith
    positive (suc (suc s)) l = absurd (omega arith)

    none : NoLowerCycle 2 four_fifths 4 5
    none zero zero a b l = absurd (omega arith)
    none zero (suc zero) a b l = absurd (omega arith)
    none (suc zero) zero a b l = absurd (omega arith)
    none (suc zero) (suc zero) a b l = absurd (omega arith)
    none (suc (suc s)) t a b l = absurd (omega arith)
    none zero (suc (suc t)) a b l = absurd (omega arith)
    none (suc zero) (suc (suc t)) a b l = absurd (omega arith)

-- the table fails the axiom at 1, and 1 is no index of it
one_is_no_index : ¬ IsEfficiencyIndex 2 four_fifths 1 1
one_is_no_index h = absurd (omega (arith, index_is_one 2 4 5 1 1 four_fifths four_fifths_is_index h))

-- ---- the index 9/10 is not attained: at it one step is strict and the step back an equality

abbrev nine_tenths : ℕ → ℕ → ℕ
nine_tenths = costs ((10 ∷ 5 ∷ []) ∷ (45 ∷ 50 ∷ []) ∷ [])

nine_tenths_positive : (s : ℕ) → s < 2 → 0 < nine_tenths s s
nine_tenths_positive zero l = omega arith
nine_tenths_positive (suc zero) l = omega arith
nine_tenths_positive (suc (suc s)) l = absurd (omega arith)

nine_tenths_order : OrderStrictSteps 2 nine_tenths 9 10 (2 ∷ 1 ∷ [])
nine_tenths_order = record { one_each = refl; step_falls = strict }
  where
    strict : (s t : ℕ) → s < 2 → t < 2 → IsStrictAt nine_tenths 9 10 s t → slice_index (2 ∷ 1 ∷ []) t < slice_index (2 ∷ 1 ∷ []) s
    strict zero zero a b h = absurd (omega arith)
    strict zero (suc zero) a b h = omega arith
    strict (suc zero) zero a b h = absurd (omega arith)
    strict (suc zero) (suc zero) a b h = absurd (omega arith)
    strict (suc (suc s)) t a b h = absurd (omega arith)
    strict zero (suc (suc t)) a b h = absurd (omega arith)
    strict (suc zero) (suc (suc t)) a b h = absurd (omega arith)

nine_tenths_cycle : IsClosedWalk 2 (IsWeakAt nine_tenths 9 10) (0 ∷ 1 ∷ 0 ∷ [])
nine_tenths_cycle = (0, (refl, (omega arith, omega arith, (omega arith, omega arith, (omega arith, refl)))), omega arith)

nine_tenths_meets_below : (p q : ℕ) → p * 10 < 9 * q → MeetsGarpAt 2 nine_tenths p q
nine_tenths_meets_below p q less walk = ordering_ranks_exclude 2 9 10 p q nine_tenths (2 ∷ 1 ∷ []) walk nine_tenths_positive less nine_tenths_order

nine_tenths_is_index : IsEfficiencyIndex 2 nine_tenths 9 10
nine_tenths_is_index = record {
  level = (omega arith, omega arith);
  holds_below = λ p q level less. nine_tenths_meets_below p q less;
  fails_above = λ p q level more. (0 ∷ 1 ∷ 0 ∷ [], weak_cycle_violates 2 9 10 p q nine_tenths (0 ∷ 1 ∷ 0 ∷ []) nine_tenths_positive more nine_tenths_cycle);
}

nine_tenths_not_attained : ¬ MeetsGarpAt 2 nine_tenths 9 10
nine_tenths_not_attained meets = meets (1 ∷ 0 ∷ 1 ∷ [])
    ((1, (refl, (omega arith, omega arith, (omega arith, omega arith, (omega arith, refl)))), omega arith), inr (inl (omega arith)))

-- the least ratio of all pairs, one half, is no index: the axiom holds at three quarters
least_of_pairs_is_no_index : ¬ IsEfficiencyIndex 2 nine_tenths 1 2
least_of_pairs_is_no_index h =
    let fails = h.fails_above 3 4 (omega arith, omega arith) (omega arith) in
    nine_tenths_meets_below 3 4 (omega arith) fails.0 fails.1

-- ---- a cycle of three steps of one half each, and no two of them between the same observations

abbrev one_half : ℕ → ℕ → ℕ
one_half = costs ((2 ∷ 1 ∷ 3 ∷ []) ∷ (3 ∷ 2 ∷ 1 ∷ []) ∷ (1 ∷ 3 ∷ 2 ∷ []) ∷ [])

one_half_cycle : HasGreatestRatio 3 one_half 1 2 (0 ∷ 1 ∷ 2 ∷ 0 ∷ [])
one_half_cycle = record {
  none_more = (0, (refl, (omega arith, omega arith, (omega arith, omega arith, (omega arith, omega arith, (omega arith, refl))))), omega arith);
  one_equal = inl refl;
}

one_half_is_index : IsEfficiencyIndex 3 one_half 1 2
one_half_is_index = index_by_cycle 3 one_half positive 1 2 (0 ∷ 1 ∷ 2 ∷ 0 ∷ []) (omega arith, omega arith) one_half_cycle.none_more none
  where
    positive : (s : ℕ) → s < 3 → 0 < one_half s s
    positive zero l = omega arith
    positive (suc zero) l = omega arith
    positive (suc (suc zero)) l = omega arith
    positive (suc (suc (suc s))) l = absurd (omega arith)

    none : NoLowerCycle 3 one_half 1 2
    none zero zero a b l = absurd (omega arith)
    none zero (suc zero) a b l = absurd (omega arith)
    none zero (suc (suc zero)) a b l = absurd (omega arith)
    none (suc zero) zero a b l = absurd (omega arith)
    none (suc zero) (suc zero) a b l = absurd (omega arith)
    none (suc zero) (suc (suc zero)) a b l = absurd (omega arith)
    none (suc (suc zero)) zero a b l = absurd (omega arith)
    none (suc (suc zero)) (suc zero) a b l = absurd (omega arith)
    none (suc (suc zero)) (suc (suc zero)) a b l = absurd (omega arith)
    none (suc (suc (suc s))) t a b l = absurd (omega arith)
    none zero (suc (suc (suc t))) a b l = absurd (omega arith)
    none (suc zero) (suc (suc (suc t))) a b l = absurd (omega arith)
    none (suc (suc zero)) (suc (suc (suc t))) a b l = absurd (omega arith)
