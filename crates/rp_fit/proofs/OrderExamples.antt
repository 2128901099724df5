-- Every index, tried at two observations that nothing contradicts: the first is revealed preferred to the second.
use Rattle.std.proofs.Common.{◌≡◌, ◌<◌, ◌≤◌, ◌+◌, ◌*◌, ◌-◌, ◌^◌, ◌⊎◌, inl, inr, ℕ, zero, suc, Bool, false, List, [], ◌∷◌, length, refl, sym, subst, arith, Contains, slice_index, slice_index_or}
use Rattle.std.proofs.Math.Nat.{pow-succ', pow-zero}
use Rattle.std.proofs.lemmas.Bool.{false≢true}
use Rattle.std.proofs.lemmas.Int.{ints}
use Rattle.std.proofs.lemmas.List.{get_or_default}
use Rattle.std.specs.Prelude.{pos, ◌+ℤ◌, ◌≤ℤ◌}
use Rattle.rp_evidence.specs.Preference.{IsStrict, IsStrictAt, IsWeak, IsWeakAt}
use Rattle.rp_evidence.specs.Walk.{AnyStep, IsClosedWalk}
use Rattle.rp_evidence.proofs.Violations.{no_violation_under_ranks}
use Rattle.rp_fit.specs.HomotheticLevel.{HomotheticLevelIsAtLeast, HomotheticLevelIsAtMost}
use Rattle.rp_fit.specs.Kept.{IsConsistent, IsHoutmanMaksIndex, IsSetOfObservations, NoneKeepsMore}
use Rattle.rp_fit.specs.Levels.{AreLevels, IndexIsAtLeast, IndexIsAtMost, IsLevelsIndex, LackAtMost, MeetsGarpAtLevels}
use Rattle.rp_fit.specs.QuasilinearLevel.{IsQuasilinearLevel}
use Rattle.rp_fit.specs.Steps.{IsEnough, IsLeastStepsCost, IsLeft, IsMinimumCostIndex, taken_cost}
use Rattle.rp_fit.proofs.BoundingValues.{costs_part_by_values, level_by_values}
use Rattle.rp_fit.proofs.ConsistentSets.{consistent_by_ranks}
use Rattle.rp_fit.proofs.FallingRanks.{no_closed_walk_under_ranks}

abbrev costs : List (List ℕ) → ℕ → ℕ → ℕ
costs rows s t = slice_index (slice_index_or rows s []) t

abbrev order : ℕ → ℕ → ℕ
order = costs ((8 ∷ 4 ∷ []) ∷ (8 ∷ 4 ∷ []) ∷ [])

-- ---- both are kept

both_are_set : IsSetOfObservations 2 (0 ∷ 1 ∷ [])
both_are_set = record { rising = λ k l. rising k l; observed = λ s there. observed s there.0 there.1 there.2 }
  where
    rising : (k : ℕ) → k + 1 < 2 → slice_index (0 ∷ 1 ∷ []) k < slice_index (0 ∷ 1 ∷ []) (k + 1)
    rising zero l = omega arith
    rising (suc k) l = absurd (omega arith)

    observed : (s k : ℕ) → k < 2 → slice_index_or (0 ∷ 1 ∷ []) k s ≡ s → s < 2
    observed s zero l e = omega (arith, e)
    observed s (suc zero) l e = omega (arith, e)
    observed s (suc (suc k)) l e = absurd (omega arith)

both_are_consistent : IsConsistent 2 order (0 ∷ 1 ∷ [])
both_are_consistent = consistent_by_ranks 2 order (0 ∷ 1 ∷ []) (2 ∷ 1 ∷ []) both_are_set (record {
  one_each = refl;
  weak_never_rises = λ i j i_in j_in h. weak i j i_in j_in h;
  strict_falls = λ i j i_in j_in h. strict i j i_in j_in h;
})
  where
    weak : (i j : ℕ) → i < 2 → j < 2 → IsWeak order (slice_index (0 ∷ 1 ∷ []) i) (slice_index (0 ∷ 1 ∷ []) j) → slice_index (2 ∷ 1 ∷ []) j ≤ slice_index (2 ∷ 1 ∷ []) i
    weak zero zero a b h = omega arith
    weak zero (suc zero) a b h = omega arith
    weak (suc zero) zero a b h = absurd (omega (arith, h))
    weak (suc zero) (suc zero) a b h = omega arith
    weak zero (suc (suc j)) a b h = absurd (omega arith)
    weak (suc zero) (suc (suc j)) a b h = absurd (omega arith)
    weak (suc (suc i)) j a b h = absurd (omega arith)

    strict : (i j : ℕ) → i < 2 → j < 2 → IsStrict order (slice_index (0 ∷ 1 ∷ []) i) (slice_index (0 ∷ 1 ∷ []) j) → slice_index (2 ∷ 1 ∷ []) j < slice_index (2 ∷ 1 ∷ []) i
    strict zero zero a b h = absurd (omega (arith, h))
    strict zero (suc zero) a b h = omega arith
    strict (suc zero) zero a b h = absurd (omega (arith, h))
    strict (suc zero) (suc zero) a b h = absurd (omega (arith, h))
    strict zero (suc (suc j)) a b h = absurd (omega arith)
    strict (suc zero) (suc (suc j)) a b h = absurd (omega arith)
    strict (suc (suc i)) j a b h = absurd (omega arith)

none_keeps_three : NoneKeepsMore 2 order 2
none_keeps_three set is_set consistent = omega (arith, no_more)
  where
    no_more : ¬ (2 < length set)
    no_more l =
        let first : slice_index set 0 < slice_index set 1 = is_set.rising 0 (omega (arith, l)) in
        let second : slice_index set 1 < slice_index set 2 = is_set.rising 1 (omega (arith, l)) in
        let third : slice_index set 2 < 2 = is_set.observed (slice_index set 2) (2, l, get_or_default set 2 (slice_index set 2) 0 l) in
        absurd (omega (arith, first, second, third))

both_are_kept : IsHoutmanMaksIndex 2 order 2
both_are_kept = record { reached = (0 ∷ 1 ∷ [], both_are_set, both_are_consistent, refl); greatest = none_keeps_three }

-- ---- no level has to fall below 1

whole : ℕ → ℕ
whole s = 1

whole_meets : MeetsGarpAtLevels 2 order whole whole
unfolding whole
whole_meets = no_violation_under_ranks 2 (λ s t. IsWeakAt order (whole s) (whole s) s t) (λ s t. IsStrictAt order (whole s) (whole s) s t) (2 ∷ 1 ∷ []) (record {
  one_each = refl;
  weak_never_rises = λ s t a b h. weak s t a b h;
  strict_falls = λ s t a b h. strict s t a b h;
})
  where
    weak : (s t : ℕ) → s < 2 → t < 2 → IsWeakAt order 1 1 s t → slice_index (2 ∷ 1 ∷ []) t ≤ slice_index (2 ∷ 1 ∷ []) s
    weak zero zero a b h = omega arith
    weak zero (suc zero) a b h = omega arith
    weak (suc zero) zero a b h = absurd (omega (arith, h))
    weak (suc zero) (suc zero) a b h = omega arith
    weak zero (suc (suc t)) a b h = absurd (omega arith)
    weak (suc zero) (suc (suc t)) a b h = absurd (omega arith)
    weak (suc (suc s)) t a b h = absurd (omega arith)

    strict : (s t : ℕ) → s < 2 → t < 2 → IsStrictAt order 1 1 s t → slice_index (2 ∷ 1 ∷ []) t < slice_index (2 ∷ 1 ∷ []) s
    strict zero zero a b h = absurd (omega (arith, h))
    strict zero (suc zero) a b h = omega arith
    strict (suc zero) zero a b h = absurd (omega (arith, h))
    strict (suc zero) (suc zero) a b h = absurd (omega (arith, h))
    strict zero (suc (suc t)) a b h = absurd (omega arith)
    strict (suc zero) (suc (suc t)) a b h = absurd (omega arith)
    strict (suc (suc s)) t a b h = absurd (omega arith)

whole_are_levels : AreLevels 2 whole whole
unfolding whole
whole_are_levels s l = (omega arith, omega arith)

nothing_lacks : IndexIsAtLeast 1 2 order 0 1
nothing_lacks num den levels meets = omega arith

whole_lacks_nothing : IndexIsAtMost 1 2 order 0 1
unfolding whole
whole_lacks_nothing k positive = (whole, whole, whole_are_levels, whole_meets, lack)
  where
    zero_power : 0 ^ 1 ≡ 0
    zero_power = refl

    lack : LackAtMost 1 2 whole whole (0 * k + 1) (1 * k)
    lack = omega arith

no_lack : IsLevelsIndex 1 2 order 0 1
no_lack = record { positive = omega arith; at_least = nothing_lacks; at_most = whole_lacks_nothing }

-- ---- no step has to go

nothing : ℕ → ℕ → Bool
nothing s t = false

nothing_is_enough : IsEnough 2 order nothing
unfolding nothing
nothing_is_enough = no_closed_walk_under_ranks 2 (IsLeft order nothing) (2 ∷ 1 ∷ []) falls
  where
    falls : (s t : ℕ) → s < 2 → t < 2 → IsLeft order nothing s t → slice_index (2 ∷ 1 ∷ []) t < slice_index (2 ∷ 1 ∷ []) s
    falls zero zero a b h = absurd (omega (arith, h.0))
    falls zero (suc zero) a b h = omega arith
    falls (suc zero) zero a b h = absurd (omega (arith, h.0))
    falls (suc zero) (suc zero) a b h = absurd (omega (arith, h.0))
    falls zero (suc (suc t)) a b h = absurd (omega arith)
    falls (suc zero) (suc (suc t)) a b h = absurd (omega arith)
    falls (suc (suc s)) t a b h = absurd (omega arith)

nothing_costs_nothing : taken_cost 2 order nothing ≡ 0
unfolding nothing
nothing_costs_nothing = refl

no_cost : IsLeastStepsCost 2 order 0
no_cost = record { reached = (nothing, nothing_is_enough, nothing_costs_nothing); least = λ taken enough. omega arith }

no_part : IsMinimumCostIndex 2 order 0 12
no_part = record { positive = omega arith; cost = 0; least = no_cost; part = refl }

-- ---- both levels are 1

stays_once : IsClosedWalk 2 AnyStep (0 ∷ 0 ∷ [])
stays_once = (0, (refl, (omega arith, tt, (omega arith, refl))), omega arith)

quasilinear_level : IsQuasilinearLevel 2 order 1 1
quasilinear_level = record {
  positive = omega arith;
  reached = (0 ∷ 0 ∷ [], stays_once, refl);
  least = costs_part_by_values 2 order 1 1 (λ s. pos (slice_index (4 ∷ 0 ∷ []) s)) bounds;
}
  where
    bounds : (s t : ℕ) → s < 2 → t < 2 → (pos (slice_index (4 ∷ 0 ∷ []) t) +ℤ pos (1 * order s s)) ≤ℤ (pos (slice_index (4 ∷ 0 ∷ []) s) +ℤ pos (1 * order s t))
    bounds zero zero a b = omega (arith, ints)
    bounds zero (suc zero) a b = omega (arith, ints)
    bounds (suc zero) zero a b = omega (arith, ints)
    bounds (suc zero) (suc zero) a b = omega (arith, ints)
    bounds zero (suc (suc t)) a b = absurd (omega arith)
    bounds (suc zero) (suc (suc t)) a b = absurd (omega arith)
    bounds (suc (suc s)) t a b = absurd (omega arith)

homothetic_level_at_least : HomotheticLevelIsAtLeast 2 order 1 1
homothetic_level_at_least = level_by_values 2 order 1 1 (λ s. slice_index (2 ∷ 1 ∷ []) s) bounds positive
  where
    bounds : (s t : ℕ) → s < 2 → t < 2 → (slice_index (2 ∷ 1 ∷ []) t * 1) * order s s ≤ (slice_index (2 ∷ 1 ∷ []) s * order s t) * 1
    bounds zero zero a b = omega arith
    bounds zero (suc zero) a b = omega arith
    bounds (suc zero) zero a b = omega arith
    bounds (suc zero) (suc zero) a b = omega arith
    bounds zero (suc (suc t)) a b = absurd (omega arith)
    bounds (suc zero) (suc (suc t)) a b = absurd (omega arith)
    bounds (suc (suc s)) t a b = absurd (omega arith)

    positive : (s : ℕ) → s < 2 → 1 ≤ slice_index (2 ∷ 1 ∷ []) s
    positive zero l = omega arith
    positive (suc zero) l = omega arith
    positive (suc (suc s)) l = absurd (omega arith)

homothetic_level_at_most : HomotheticLevelIsAtMost 2 order 1 1
homothetic_level_at_most = (0 ∷ 0 ∷ [], stays_once, omega arith)
