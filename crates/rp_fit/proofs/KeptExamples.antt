-- Consistent sets, tried at small tables. A table stands as its costs: a row for each observation's prices.
use Rattle.std.proofs.Common.{◌≡◌, ◌<◌, ◌≤◌, ◌+◌, ℕ, zero, suc, List, [], ◌∷◌, length, inl, refl, subst, ◌∙◌, arith, Contains, slice_index, slice_index_or}
use Rattle.std.proofs.lemmas.List.{get_or_default}
use Rattle.rp_evidence.specs.Garp.{IsViolation}
use Rattle.rp_evidence.specs.Preference.{IsStrict, IsWeak}
use Rattle.rp_fit.specs.Kept.{IsConsistent, IsHoutmanMaksIndex, IsSetOfObservations, LiesWithin, NoneKeepsMore}
use Rattle.rp_fit.proofs.ConsistentSets.{consistent_by_ranks}

abbrev costs : List (List ℕ) → ℕ → ℕ → ℕ
costs rows s t = slice_index (slice_index_or rows s []) t

-- ---- two observations that contradict each other: one of them can be kept

abbrev contradiction : ℕ → ℕ → ℕ
contradiction = costs ((5 ∷ 4 ∷ []) ∷ (4 ∷ 5 ∷ []) ∷ [])

both_are_inconsistent : ¬ IsConsistent 2 contradiction (0 ∷ 1 ∷ [])
both_are_inconsistent kept =
    kept (0 ∷ 1 ∷ 0 ∷ []) (λ s there. within s there.0 there.1 there.2)
    ((0, (refl, (omega arith, omega arith, (omega arith, omega arith, (omega arith, refl)))), omega arith), inl (omega arith))
  where
    within : (s k : ℕ) → k < 3 → slice_index_or (0 ∷ 1 ∷ 0 ∷ []) k s ≡ s → Contains (0 ∷ 1 ∷ []) s
    within s zero l e = (0, omega arith, e)
    within s (suc zero) l e = (1, omega arith, e)
    within s (suc (suc zero)) l e = (0, omega arith, e)
    within s (suc (suc (suc k))) l e = absurd (omega arith)

-- entries of a rising list of two or more numbers below 2
two_are_both : (set : List ℕ) → IsSetOfObservations 2 set → 1 < length set → LiesWithin set (0 ∷ 1 ∷ 0 ∷ [])
two_are_both set is_set l s there = go s there.0 there.1 there.2
  where
    first : slice_index set 0 < slice_index set 1
    first = is_set.rising 0 l

    second : slice_index set 1 < 2
    second = is_set.observed (slice_index set 1) (1, l, get_or_default set 1 (slice_index set 1) 0 l)

    zero_at : slice_index set 0 ≡ 0
    zero_at = omega (arith, first, second)

    one_at : slice_index set 1 ≡ 1
    one_at = omega (arith, first, second)

    has_zero : Contains set 0
    has_zero = (0, omega arith, zero_at)

    has_one : Contains set 1
    has_one = (1, l, get_or_default set 1 1 0 l ∙ one_at)

    go : (s k : ℕ) → k < 3 → slice_index_or (0 ∷ 1 ∷ 0 ∷ []) k s ≡ s → Contains set s
    go s zero l e = subst (λ z. Contains set z) e has_zero
    go s (suc zero) l e = subst (λ z. Contains set z) e has_one
    go s (suc (suc zero)) l e = subst (λ z. Contains set z) e has_zero
    go s (suc (suc (suc k))) l e = absurd (omega arith)

contradiction_violates : IsViolation 2 (IsWeak contradiction) (IsStrict contradiction) (0 ∷ 1 ∷ 0 ∷ [])
contradiction_violates =
    ((0, (refl, (omega arith, omega arith, (omega arith, omega arith, (omega arith, refl)))), omega arith), inl (omega arith))

none_keeps_both : NoneKeepsMore 2 contradiction 1
none_keeps_both set is_set consistent = omega (arith, no_more)
  where
    no_more : ¬ (1 < length set)
    no_more l = consistent (0 ∷ 1 ∷ 0 ∷ []) (two_are_both set is_set l) contradiction_violates

first_is_set : IsSetOfObservations 2 (0 ∷ [])
first_is_set = record { rising = λ k l. absurd (omega arith); observed = λ s there. observed s there.0 there.1 there.2 }
  where
    observed : (s k : ℕ) → k < 1 → slice_index_or (0 ∷ []) k s ≡ s → s < 2
    observed s zero l e = omega (arith, e)
    observed s (suc k) l e = absurd (omega arith)

first_is_consistent : IsConsistent 2 contradiction (0 ∷ [])
first_is_consistent = consistent_by_ranks 2 contradiction (0 ∷ []) (1 ∷ []) first_is_set (record {
  one_each = refl;
  weak_never_rises = λ i j i_in j_in h. weak i j i_in j_in h;
  strict_falls = λ i j i_in j_in h. strict i j i_in j_in h;
})
  where
    weak : (i j : ℕ) → i < 1 → j < 1 → IsWeak contradiction (slice_index (0 ∷ []) i) (slice_index (0 ∷ []) j) → slice_index (1 ∷ []) j ≤ slice_index (1 ∷ []) i
    weak zero zero a b h = omega arith
    weak zero (suc j) a b h = absurd (omega arith)
    weak (suc i) j a b h = absurd (omega arith)

    strict : (i j : ℕ) → i < 1 → j < 1 → IsStrict contradiction (slice_index (0 ∷ []) i) (slice_index (0 ∷ []) j) → slice_index (1 ∷ []) j < slice_index (1 ∷ []) i
    strict zero zero a b h = absurd (omega arith)
    strict zero (suc j) a b h = absurd (omega arith)
    strict (suc i) j a b h = absurd (omega arith)

one_of_two_is_kept : IsHoutmanMaksIndex 2 contradiction 1
one_of_two_is_kept = record { reached = (0 ∷ [], first_is_set, first_is_consistent, refl); greatest = none_keeps_both }

-- ---- three observations that contradict each other only together: any two of them can be kept, and all three not

abbrev round_of_three : ℕ → ℕ → ℕ
round_of_three = costs ((2 ∷ 1 ∷ 3 ∷ []) ∷ (3 ∷ 2 ∷ 1 ∷ []) ∷ (1 ∷ 3 ∷ 2 ∷ []) ∷ [])

all_three_are_inconsistent : ¬ IsConsistent 3 round_of_three (0 ∷ 1 ∷ 2 ∷ [])
all_three_are_inconsistent kept =
    kept (0 ∷ 1 ∷ 2 ∷ 0 ∷ []) (λ s there. within s there.0 there.1 there.2)
    ((0, (refl, (omega arith, omega arith, (omega arith, omega arith, (omega arith, omega arith, (omega arith, refl))))), omega arith), inl (omega arith))
  where
    within : (s k : ℕ) → k < 4 → slice_index_or (0 ∷ 1 ∷ 2 ∷ 0 ∷ []) k s ≡ s → Contains (0 ∷ 1 ∷ 2 ∷ []) s
    within s zero l e = (0, omega arith, e)
    within s (suc zero) l e = (1, omega arith, e)
    within s (suc (suc zero)) l e = (2, omega arith, e)
    within s (suc (suc (suc zero))) l e = (0, omega arith, e)
    within s (suc (suc (suc (suc k)))) l e = absurd (omega arith)

first_two : IsSetOfObservations 3 (0 ∷ 1 ∷ [])
first_two = record { rising = λ k l. rising k l; observed = λ s there. observed s there.0 there.1 there.2 }
  where
    rising : (k : ℕ) → k + 1 < 2 → slice_index (0 ∷ 1 ∷ []) k < slice_index (0 ∷ 1 ∷ []) (k + 1)
    rising zero l = omega arith
    rising (suc k) l = absurd (omega arith)

    observed : (s k : ℕ) → k < 2 → slice_index_or (0 ∷ 1 ∷ []) k s ≡ s → s < 3
    observed s zero l e = omega (arith, e)
    observed s (suc zero) l e = omega (arith, e)
    observed s (suc (suc k)) l e = absurd (omega arith)

first_two_are_consistent : IsConsistent 3 round_of_three (0 ∷ 1 ∷ [])
first_two_are_consistent = consistent_by_ranks 3 round_of_three (0 ∷ 1 ∷ []) (2 ∷ 1 ∷ []) first_two (record {
  one_each = refl;
  weak_never_rises = λ i j i_in j_in h. weak i j i_in j_in h;
  strict_falls = λ i j i_in j_in h. strict i j i_in j_in h;
})
  where
    weak : (i j : ℕ) → i < 2 → j < 2 → IsWeak round_of_three (slice_index (0 ∷ 1 ∷ []) i) (slice_index (0 ∷ 1 ∷ []) j) → slice_index (2 ∷ 1 ∷ []) j ≤ slice_index (2 ∷ 1 ∷ []) i
    weak zero zero a b h = omega arith
    weak zero (suc zero) a b h = omega arith
    weak (suc zero) zero a b h = absurd (omega arith)
    weak (suc zero) (suc zero) a b h = omega arith
    weak zero (suc (suc j)) a b h = absurd (omega arith)
    weak (suc zero) (suc (suc j)) a b h = absurd (omega arith)
    weak (suc (suc i)) j a b h = absurd (omega arith)

    strict : (i j : ℕ) → i < 2 → j < 2 → IsStrict round_of_three (slice_index (0 ∷ 1 ∷ []) i) (slice_index (0 ∷ 1 ∷ []) j) → slice_index (2 ∷ 1 ∷ []) j < slice_index (2 ∷ 1 ∷ []) i
    strict zero zero a b h = absurd (omega arith)
    strict zero (suc zero) a b h = omega arith
    strict (suc zero) zero a b h = absurd (omega arith)
    strict (suc zero) (suc zero) a b h = absurd (omega arith)
    strict zero (suc (suc j)) a b h = absurd (omega arith)
    strict (suc zero) (suc (suc j)) a b h = absurd (omega arith)
    strict (suc (suc i)) j a b h = absurd (omega arith)
