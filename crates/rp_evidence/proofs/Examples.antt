-- The definitions, tried at small tables. A table stands as its costs: a row for each observation's prices.
use Rattle.std.proofs.Common.{◌≡◌, ◌<◌, ◌≤◌, ◌*◌, ℕ, zero, suc, List, [], ◌∷◌, ◌⊎◌, inl, inr, refl, sym, subst, ◌∙◌, arith, Contains, slice_index, slice_index_or}
use Rattle.std.specs.List.Sorted.{IsStrictlyIncreasing}
use Rattle.rp_evidence.specs.Count.{IsCount}
use Rattle.rp_evidence.specs.Garp.{IsViolationAt, MeetsGarp, MeetsGarpAt}
use Rattle.rp_evidence.specs.Preference.{IsStrict, IsStrictAt, IsWeak, StrictByLevels, WeakByLevels}
use Rattle.rp_evidence.specs.Ranks.{OrderStrictSteps, RespectPreference}
use Rattle.rp_evidence.specs.Walk.{IsClosedWalk, HasStep, LeadsTo, Reaches}
use Rattle.rp_evidence.proofs.Levels.{ordering_ranks_exclude}
use Rattle.rp_evidence.proofs.Violations.{no_violation_under_ranks}
use Rattle.rp_evidence.proofs.Walks.{rest_of_reach, starts_below}

abbrev costs : List (List ℕ) → ℕ → ℕ → ℕ
costs rows s t = slice_index (slice_index_or rows s []) t

-- ---- two observations that contradict each other

abbrev contradiction : ℕ → ℕ → ℕ
contradiction = costs ((5 ∷ 4 ∷ []) ∷ (4 ∷ 5 ∷ []) ∷ [])

contradiction_violates : IsViolationAt 2 contradiction 1 1 (0 ∷ 1 ∷ 0 ∷ [])
contradiction_violates =
    ((0, (refl, (omega arith, omega arith, (omega arith, omega arith, (omega arith, refl)))), omega arith), inl (omega arith))

-- ---- the same two, the first held to 800 and then to 799 thousandths of the 5 that it spent: 4 are just that part,
-- and then above it

weak_at_800 : WeakByLevels (800 ∷ 1000 ∷ []) contradiction 0 1
weak_at_800 = omega arith

not_strict_at_800 : ¬ StrictByLevels (800 ∷ 1000 ∷ []) contradiction 0 1
not_strict_at_800 h = absurd (omega arith)

not_weak_at_799 : ¬ WeakByLevels (799 ∷ 1000 ∷ []) contradiction 0 1
not_weak_at_799 h = absurd (omega arith)

-- the level of the second is its own
strict_of_the_second : StrictByLevels (799 ∷ 1000 ∷ []) contradiction 1 0
strict_of_the_second = omega arith

-- an observation that is held to less than all is not weakly preferred to itself
not_to_itself_at_800 : ¬ WeakByLevels (800 ∷ 1000 ∷ []) contradiction 0 0
not_to_itself_at_800 h = absurd (omega arith)

-- ---- a closed walk of weak steps, none of them strict

abbrev indifference : ℕ → ℕ → ℕ
indifference = costs ((4 ∷ 4 ∷ []) ∷ (4 ∷ 4 ∷ []) ∷ [])

indifference_is_closed : IsClosedWalk 2 (IsWeak indifference) (0 ∷ 1 ∷ 0 ∷ [])
indifference_is_closed = (0, (refl, (omega arith, omega arith, (omega arith, omega arith, (omega arith, refl)))), omega arith)

indifference_is_not_strict : ¬ HasStep (IsStrict indifference) (0 ∷ 1 ∷ 0 ∷ [])
indifference_is_not_strict (inl h) = absurd (omega arith)
indifference_is_not_strict (inr (inl h)) = absurd (omega arith)
indifference_is_not_strict (inr (inr h)) = absurd h

indifference_ranks : RespectPreference 2 (IsWeak indifference) (IsStrict indifference) (2 ∷ 2 ∷ [])
indifference_ranks = record { one_each = refl; weak_never_rises = weak; strict_falls = strict }
  where
    weak : (s t : ℕ) → s < 2 → t < 2 → IsWeak indifference s t → slice_index (2 ∷ 2 ∷ []) t ≤ slice_index (2 ∷ 2 ∷ []) s
    weak zero zero a b h = omega arith
    weak zero (suc zero) a b h = omega arith
    weak (suc zero) zero a b h = omega arith
    weak (suc zero) (suc zero) a b h = omega arith
    weak (suc (suc s)) t a b h = absurd (omega arith)
    weak zero (suc (suc t)) a b h = absurd (omega arith)
    weak (suc zero) (suc (suc t)) a b h = absurd (omega arith)

    strict : (s t : ℕ) → s < 2 → t < 2 → IsStrict indifference s t → slice_index (2 ∷ 2 ∷ []) t < slice_index (2 ∷ 2 ∷ []) s
    strict zero zero a b h = absurd (omega arith)
    strict zero (suc zero) a b h = absurd (omega arith)
    strict (suc zero) zero a b h = absurd (omega arith)
    strict (suc zero) (suc zero) a b h = absurd (omega arith)
    strict (suc (suc s)) t a b h = absurd (omega arith)
    strict zero (suc (suc t)) a b h = absurd (omega arith)
    strict (suc zero) (suc (suc t)) a b h = absurd (omega arith)

indifference_meets : MeetsGarp 2 indifference
indifference_meets = no_violation_under_ranks 2 (IsWeak indifference) (IsStrict indifference) (2 ∷ 2 ∷ []) indifference_ranks

-- ---- a violation at the level 9/10 and at no smaller one

abbrev nine_tenths : ℕ → ℕ → ℕ
nine_tenths = costs ((10 ∷ 5 ∷ []) ∷ (45 ∷ 50 ∷ []) ∷ [])

nine_tenths_violates : IsViolationAt 2 nine_tenths 9 10 (1 ∷ 0 ∷ 1 ∷ [])
nine_tenths_violates =
    ((1, (refl, (omega arith, omega arith, (omega arith, omega arith, (omega arith, refl)))), omega arith), inr (inl (omega arith)))

nine_tenths_order : OrderStrictSteps 2 nine_tenths 9 10 (2 ∷ 1 ∷ [])
nine_tenths_order = record { one_each = refl; step_falls = strict }
  where
    strict : (s t : ℕ) → s < 2 → t < 2 → IsStrictAt nine_tenths 9 10 s t → slice_index (2 ∷ 1 ∷ []) t < slice_index (2 ∷ 1 ∷ []) s
    strict zero zero a b h = absurd (omega arith)
    strict zero (suc zero) a b h = omega arith
    strict (suc zero) zero a b h = absurd (omega arith)
    strict (suc zero) (suc zero) a b h = absurd (omega arith)
    strict (suc (suc s)) t a b h = absurd (omega arith)
    strict zero (suc (suc t)) a b h = absurd (omega arith)
    strict (suc zero) (suc (suc t)) a b h = absurd (omega arith)

nine_tenths_meets_below : (num den : ℕ) → num * 10 < 9 * den → MeetsGarpAt 2 nine_tenths num den
nine_tenths_meets_below num den below walk =
    ordering_ranks_exclude 2 9 10 num den nine_tenths (2 ∷ 1 ∷ []) walk positive below nine_tenths_order
  where
    positive : (s : ℕ) → s < 2 → 0 < nine_tenths s s
    positive zero l = omega arith
    positive (suc zero) l = omega arith
    positive (suc (suc s)) l = absurd (omega arith)

-- ---- three steps that contradict, where no two steps do

abbrev three_steps : ℕ → ℕ → ℕ
three_steps = costs ((2 ∷ 1 ∷ 3 ∷ []) ∷ (3 ∷ 2 ∷ 1 ∷ []) ∷ (1 ∷ 3 ∷ 2 ∷ []) ∷ [])

three_steps_violate : IsViolationAt 3 three_steps 1 1 (0 ∷ 1 ∷ 2 ∷ 0 ∷ [])
three_steps_violate =
    ((0, (refl, (omega arith, omega arith, (omega arith, omega arith, (omega arith, omega arith, (omega arith, refl))))), omega arith), inl (omega arith))

no_pair_contradicts : (s t : ℕ) → s < 3 → t < 3 → IsWeak three_steps s t → ¬ IsStrict three_steps t s
no_pair_contradicts zero zero a b h k = absurd (omega arith)
no_pair_contradicts zero (suc zero) a b h k = absurd (omega arith)
no_pair_contradicts zero (suc (suc zero)) a b h k = absurd (omega arith)
no_pair_contradicts (suc zero) zero a b h k = absurd (omega arith)
no_pair_contradicts (suc zero) (suc zero) a b h k = absurd (omega arith)
no_pair_contradicts (suc zero) (suc (suc zero)) a b h k = absurd (omega arith)
no_pair_contradicts (suc (suc zero)) zero a b h k = absurd (omega arith)
no_pair_contradicts (suc (suc zero)) (suc zero) a b h k = absurd (omega arith)
no_pair_contradicts (suc (suc zero)) (suc (suc zero)) a b h k = absurd (omega arith)
no_pair_contradicts (suc (suc (suc s))) t a b h k = absurd (omega arith)
no_pair_contradicts zero (suc (suc (suc t))) a b h k = absurd (omega arith)
no_pair_contradicts (suc zero) (suc (suc (suc t))) a b h k = absurd (omega arith)
no_pair_contradicts (suc (suc zero)) (suc (suc (suc t))) a b h k = absurd (omega arith)

-- ---- the second bundle is the cheaper one at both prices: the first observation counts both, the second itself alone

abbrev more_and_less : ℕ → ℕ → ℕ
more_and_less = costs ((8 ∷ 4 ∷ []) ∷ (8 ∷ 4 ∷ []) ∷ [])

more_counts_both : IsCount 2 (IsWeak more_and_less) 0 2
more_counts_both = (0 ∷ 1 ∷ [], record { rising = rising; just_these = λ t. (λ c. all t c.0 c.1 c.2, λ h. only t h.0) }, refl)
  where
    rising : IsStrictlyIncreasing (0 ∷ 1 ∷ [])
    rising zero l = omega arith
    rising (suc k) l = absurd (omega arith)

    all : (t k : ℕ) → k < 2 → slice_index_or (0 ∷ 1 ∷ []) k t ≡ t → (t < 2) × ((t ≡ 0) ⊎ Reaches 2 (IsWeak more_and_less) 0 t)
    all t zero l e = (omega arith, inl (sym e))
    all t (suc zero) l e = (omega arith, inr (subst (λ z. Reaches 2 (IsWeak more_and_less) 0 z) e (0 ∷ 1 ∷ [], (refl, (omega arith, omega arith, (omega arith, refl))), omega arith)))
    all t (suc (suc k)) l e = absurd (omega arith)

    only : (t : ℕ) → t < 2 → Contains (0 ∷ 1 ∷ []) t
    only zero l = (0, omega arith, refl)
    only (suc zero) l = (1, omega arith, refl)
    only (suc (suc t)) l = absurd (omega arith)

less_leads_to_itself : (s t : ℕ) (w : List ℕ) → s ≡ 1 → LeadsTo 2 (IsWeak more_and_less) s t w → t ≡ 1
less_leads_to_itself s t [] e h = sym h.1 ∙ e
less_leads_to_itself zero t (x ∷ w) e h = absurd (omega arith)
less_leads_to_itself (suc (suc s)) t (x ∷ w) e h = absurd (omega arith)
less_leads_to_itself (suc zero) t (zero ∷ w) e h = absurd (omega (arith, h.1))
less_leads_to_itself (suc zero) t (suc zero ∷ w) e h = less_leads_to_itself 1 t w refl h.2
less_leads_to_itself (suc zero) t (suc (suc x) ∷ w) e h = absurd (omega (arith, starts_below 2 (IsWeak more_and_less) (suc (suc x)) t w h.2))

less_counts_itself : IsCount 2 (IsWeak more_and_less) 1 1
less_counts_itself = (1 ∷ [], record { rising = λ k l. absurd (omega arith); just_these = λ t. (λ c. all t c.0 c.1 c.2, λ h. (0, omega arith, only t h.1)) }, refl)
  where
    all : (t k : ℕ) → k < 1 → slice_index_or (1 ∷ []) k t ≡ t → (t < 2) × ((t ≡ 1) ⊎ Reaches 2 (IsWeak more_and_less) 1 t)
    all t zero l e = (omega arith, inl (sym e))
    all t (suc k) l e = absurd (omega arith)

    only : (t : ℕ) → (t ≡ 1) ⊎ Reaches 2 (IsWeak more_and_less) 1 t → 1 ≡ t
    only t (inl e) = sym e
    only t (inr r) = let k = rest_of_reach 2 (IsWeak more_and_less) 1 t r in sym (less_leads_to_itself 1 t (k.0 ∷ k.1) refl k.2)
