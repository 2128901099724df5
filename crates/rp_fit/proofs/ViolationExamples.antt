-- Violating pairs, tried at small tables.
use Rattle.std.proofs.Common.{◌≡◌, ◌<◌, ◌+◌, inl, inr, ℕ, zero, suc, List, [], ◌∷◌, refl, subst, arith, Contains, slice_index, slice_index_or}
use Rattle.rp_evidence.specs.Count.{IsNumberOf}
use Rattle.rp_evidence.specs.Input.{TableInput}
use Rattle.rp_evidence.specs.Preference.{IsWeak}
use Rattle.rp_evidence.specs.Walk.{IsWalk, LeadsTo, Reaches}
use Rattle.rp_evidence.proofs.Walks.{starts_below}
use Rattle.rp_table.specs.Spending.{spending}
use Rattle.rp_table.specs.Sums.{sum_below}
use Rattle.rp_fit.specs.Violations.{AreViolationCounts, IsGarpPair, IsInGarpPair, IsNumberOfPairs, IsSarpPair, IsWarpPair, IsWeakGarpPair, SameBundle, all_pairs}

-- prices and quantities as rows
abbrev entry : List (List ℕ) → ℕ → ℕ → ℕ
entry rows s g = slice_index (slice_index_or rows s []) g

abbrev table : ℕ → ℕ → List (List ℕ) → List (List ℕ) → TableInput
table n goods prices quantities = record {
  n = n;
  goods = goods;
  price = entry prices;
  quantity = entry quantities;
  cost = λ s t. spending goods (entry prices s) (entry quantities t);
  levels = [];
  sums = λ s t s_in t_in. refl;
}

-- ---- how many, of which a test is known

none_of : (n : ℕ) (P : ℕ → Type 0) → ((t : ℕ) → t < n → ¬ P t) → IsNumberOf n P 0
none_of n P none = ([], record { rising = λ k l. absurd (omega arith); just_these = λ t. (λ c. absurd (omega (arith, c.1)), λ h. absurd (none t h.0 h.1)) }, refl)

just_one : (n : ℕ) (P : ℕ → Type 0) (x : ℕ) → x < n → P x → ((t : ℕ) → t < n → P t → x ≡ t) → IsNumberOf n P 1
just_one n P x x_in holds only = (
  x ∷ [],
  record {
    rising = λ k l. absurd (omega arith);
    just_these = λ t. (λ c. all t c.0 c.1 c.2, λ h. (0, omega arith, only t h.0 h.1));
  },
  refl,
)
  where
    all : (t k : ℕ) → k < 1 → slice_index_or (x ∷ []) k t ≡ t → (t < n) × P t
    all t zero l e = subst (λ z. (z < n) × P z) e (x_in, holds)
    all t (suc k) l e = absurd (omega arith)

both_of_two : (P : ℕ → Type 0) → P 0 → P 1 → IsNumberOf 2 P 2
both_of_two P first second = (0 ∷ 1 ∷ [], record { rising = rising; just_these = λ t. (λ c. all t c.0 c.1 c.2, λ h. only t h.0) }, refl)
  where
    rising : (k : ℕ) → k + 1 < 2 → slice_index (0 ∷ 1 ∷ []) k < slice_index (0 ∷ 1 ∷ []) (k + 1)
    rising zero l = omega arith
    rising (suc k) l = absurd (omega arith)

    all : (t k : ℕ) → k < 2 → slice_index_or (0 ∷ 1 ∷ []) k t ≡ t → (t < 2) × P t
    all t zero l e = subst (λ z. (z < 2) × P z) e (omega arith, first)
    all t (suc zero) l e = subst (λ z. (z < 2) × P z) e (omega arith, second)
    all t (suc (suc k)) l e = absurd (omega arith)

    only : (t : ℕ) → t < 2 → Contains (0 ∷ 1 ∷ []) t
    only zero l = (0, omega arith, refl)
    only (suc zero) l = (1, omega arith, refl)
    only (suc (suc t)) l = absurd (omega arith)

no_pairs : (n : ℕ) (R : ℕ → ℕ → Type 0) → ((s t : ℕ) → s < n → t < n → ¬ R s t) → IsNumberOfPairs n R 0
no_pairs n R none = record { seconds = λ s. 0; each = λ s s_in. none_of n (R s) (λ t t_in. none s t s_in t_in); sum = zeros n }
  where
    zeros : (n : ℕ) → sum_below n (λ s. 0) ≡ 0
    zeros zero = refl
    zeros (suc n) = omega (arith, zeros n)

-- each of two observations with the other
both_ways : (R : ℕ → ℕ → Type 0) → R 0 1 → R 1 0 → ((s : ℕ) → ¬ R s s) → IsNumberOfPairs 2 R 2
both_ways R there back apart = record { seconds = λ s. 1; each = each; sum = refl }
  where
    from_first : (t : ℕ) → t < 2 → R 0 t → 1 ≡ t
    from_first zero l h = absurd (apart 0 h)
    from_first (suc zero) l h = refl
    from_first (suc (suc t)) l h = absurd (omega arith)

    from_second : (t : ℕ) → t < 2 → R 1 t → 0 ≡ t
    from_second zero l h = refl
    from_second (suc zero) l h = absurd (apart 1 h)
    from_second (suc (suc t)) l h = absurd (omega arith)

    each : (s : ℕ) → s < 2 → IsNumberOf 2 (R s) 1
    each zero l = just_one 2 (R 0) 1 (omega arith) there from_first
    each (suc zero) l = just_one 2 (R 1) 0 (omega arith) back from_second
    each (suc (suc s)) l = absurd (omega arith)

-- each of three observations with the one before it, the first with the last
round : (R : ℕ → ℕ → Type 0) → R 0 2 → R 1 0 → R 2 1 → ((s : ℕ) → ¬ R s s) → (¬ R 0 1) → (¬ R 1 2) → (¬ R 2 0) → IsNumberOfPairs 3 R 3
round R a b d apart x y z = record { seconds = λ s. 1; each = each; sum = refl }
  where
    from_first : (t : ℕ) → t < 3 → R 0 t → 2 ≡ t
    from_first zero l h = absurd (apart 0 h)
    from_first (suc zero) l h = absurd (x h)
    from_first (suc (suc zero)) l h = refl
    from_first (suc (suc (suc t))) l h = absurd (omega arith)

    from_second : (t : ℕ) → t < 3 → R 1 t → 0 ≡ t
    from_second zero l h = refl
    from_second (suc zero) l h = absurd (apart 1 h)
    from_second (suc (suc zero)) l h = absurd (y h)
    from_second (suc (suc (suc t))) l h = absurd (omega arith)

    from_third : (t : ℕ) → t < 3 → R 2 t → 1 ≡ t
    from_third zero l h = absurd (z h)
    from_third (suc zero) l h = refl
    from_third (suc (suc zero)) l h = absurd (apart 2 h)
    from_third (suc (suc (suc t))) l h = absurd (omega arith)

    each : (s : ℕ) → s < 3 → IsNumberOf 3 (R s) 1
    each zero l = just_one 3 (R 0) 2 (omega arith) a from_first
    each (suc zero) l = just_one 3 (R 1) 0 (omega arith) b from_second
    each (suc (suc zero)) l = just_one 3 (R 2) 1 (omega arith) d from_third
    each (suc (suc (suc s))) l = absurd (omega arith)

-- ---- two observations that contradict each other: each pair violates each axiom

abbrev contradiction : TableInput
contradiction = table 2 2 ((1 ∷ 2 ∷ []) ∷ (2 ∷ 1 ∷ []) ∷ []) ((1 ∷ 2 ∷ []) ∷ (2 ∷ 1 ∷ []) ∷ [])

first_reaches_second : Reaches 2 (IsWeak contradiction.cost) 0 1
first_reaches_second = (0 ∷ 1 ∷ [], (refl, (omega arith, omega arith, (omega arith, refl))), omega arith)

second_reaches_first : Reaches 2 (IsWeak contradiction.cost) 1 0
second_reaches_first = (1 ∷ 0 ∷ [], (refl, (omega arith, omega arith, (omega arith, refl))), omega arith)

bundles_differ : ¬ SameBundle contradiction 0 1
bundles_differ same = absurd (omega (arith, same 0 (omega arith)))

bundles_differ_back : ¬ SameBundle contradiction 1 0
bundles_differ_back same = absurd (omega (arith, same 0 (omega arith)))

garp_pairs : IsNumberOfPairs 2 (IsGarpPair contradiction) 2
garp_pairs =
    both_ways (IsGarpPair contradiction)
    (λ e. absurd (omega (arith, e)), first_reaches_second, omega arith) (λ e. absurd (omega (arith, e)), second_reaches_first, omega arith) (λ s h. h.0 refl)

weak_garp_pairs : IsNumberOfPairs 2 (IsWeakGarpPair contradiction) 2
weak_garp_pairs =
    both_ways (IsWeakGarpPair contradiction)
    (λ e. absurd (omega (arith, e)), omega arith, omega arith) (λ e. absurd (omega (arith, e)), omega arith, omega arith) (λ s h. h.0 refl)

warp_pairs : IsNumberOfPairs 2 (IsWarpPair contradiction) 2
warp_pairs =
    both_ways (IsWarpPair contradiction)
    (λ e. absurd (omega (arith, e)), omega arith, omega arith, bundles_differ) (λ e. absurd (omega (arith, e)), omega arith, omega arith, bundles_differ_back)
    (λ s h. h.0 refl)

sarp_pairs : IsNumberOfPairs 2 (IsSarpPair contradiction) 2
sarp_pairs =
    both_ways (IsSarpPair contradiction)
    (λ e. absurd (omega (arith, e)), first_reaches_second, omega arith, bundles_differ)
    (λ e. absurd (omega (arith, e)), second_reaches_first, omega arith, bundles_differ_back) (λ s h. h.0 refl)

both_observations : IsNumberOf 2 (IsInGarpPair contradiction) 2
both_observations =
    both_of_two (IsInGarpPair contradiction)
    (1, omega arith, inl (λ e. absurd (omega (arith, e)), first_reaches_second, omega arith))
    (0, omega arith, inl (λ e. absurd (omega (arith, e)), second_reaches_first, omega arith))

counts_of_two : AreViolationCounts contradiction 2 2 2 2 2
counts_of_two = record { garp_is = garp_pairs; weak_garp_is = weak_garp_pairs; warp_is = warp_pairs; sarp_is = sarp_pairs; observations_is = both_observations }

-- ---- three observations that contradict each other only together: a pair for each step, and no two contradict

abbrev three : TableInput
three = table 3 3 ((2 ∷ 1 ∷ 3 ∷ []) ∷ (3 ∷ 2 ∷ 1 ∷ []) ∷ (1 ∷ 3 ∷ 2 ∷ []) ∷ []) ((1 ∷ 0 ∷ 0 ∷ []) ∷ (0 ∷ 1 ∷ 0 ∷ []) ∷ (0 ∷ 0 ∷ 1 ∷ []) ∷ [])

second_round : Reaches 3 (IsWeak three.cost) 1 0
second_round = (1 ∷ 2 ∷ 0 ∷ [], (refl, (omega arith, omega arith, (omega arith, omega arith, (omega arith, refl)))), omega arith)

third_round : Reaches 3 (IsWeak three.cost) 2 1
third_round = (2 ∷ 0 ∷ 1 ∷ [], (refl, (omega arith, omega arith, (omega arith, omega arith, (omega arith, refl)))), omega arith)

first_round : Reaches 3 (IsWeak three.cost) 0 2
first_round = (0 ∷ 1 ∷ 2 ∷ [], (refl, (omega arith, omega arith, (omega arith, omega arith, (omega arith, refl)))), omega arith)

three_garp_pairs : IsNumberOfPairs 3 (IsGarpPair three) 3
three_garp_pairs =
    round (IsGarpPair three) (λ e. absurd (omega (arith, e)), first_round, omega arith) (λ e. absurd (omega (arith, e)), second_round, omega arith)
    (λ e. absurd (omega (arith, e)), third_round, omega arith) (λ s h. h.0 refl) (λ h. absurd (omega (arith, h.2))) (λ h. absurd (omega (arith, h.2)))
    (λ h. absurd (omega (arith, h.2)))

three_sarp_pairs : IsNumberOfPairs 3 (IsSarpPair three) 3
three_sarp_pairs =
    round (IsSarpPair three) (λ e. absurd (omega (arith, e)), first_round, omega arith, λ same. absurd (omega (arith, same 0 (omega arith))))
    (λ e. absurd (omega (arith, e)), second_round, omega arith, λ same. absurd (omega (arith, same 0 (omega arith))))
    (λ e. absurd (omega (arith, e)), third_round, omega arith, λ same. absurd (omega (arith, same 1 (omega arith)))) (λ s h. h.0 refl) (λ h. absurd (omega (arith, h.2)))
    (λ h. absurd (omega (arith, h.2))) (λ h. absurd (omega (arith, h.2)))

three_weak_garp_pairs : IsNumberOfPairs 3 (IsWeakGarpPair three) 0
three_weak_garp_pairs = no_pairs 3 (IsWeakGarpPair three) none
  where
    none : (s t : ℕ) → s < 3 → t < 3 → ¬ IsWeakGarpPair three s t
    none zero zero a b h = h.0 refl
    none (suc zero) (suc zero) a b h = h.0 refl
    none (suc (suc zero)) (suc (suc zero)) a b h = h.0 refl
    none zero (suc zero) a b h = absurd (omega (arith, h.2))
    none zero (suc (suc zero)) a b h = absurd (omega (arith, h.1))
    none (suc zero) zero a b h = absurd (omega (arith, h.1))
    none (suc zero) (suc (suc zero)) a b h = absurd (omega (arith, h.2))
    none (suc (suc zero)) zero a b h = absurd (omega (arith, h.2))
    none (suc (suc zero)) (suc zero) a b h = absurd (omega (arith, h.1))
    none zero (suc (suc (suc t))) a b h = absurd (omega arith)
    none (suc zero) (suc (suc (suc t))) a b h = absurd (omega arith)
    none (suc (suc zero)) (suc (suc (suc t))) a b h = absurd (omega arith)
    none (suc (suc (suc s))) t a b h = absurd (omega arith)

-- ---- equal choices violate nothing, and two bundles of equal cost violate WARP and SARP alone

abbrev equal_costs : TableInput
equal_costs = table 2 2 ((1 ∷ 1 ∷ []) ∷ (1 ∷ 1 ∷ []) ∷ []) ((1 ∷ 2 ∷ []) ∷ (2 ∷ 1 ∷ []) ∷ [])

equal_costs_violate_warp : IsNumberOfPairs 2 (IsWarpPair equal_costs) 2
equal_costs_violate_warp =
    both_ways (IsWarpPair equal_costs) (λ e. absurd (omega (arith, e)), omega arith, omega arith, λ same. absurd (omega (arith, same 0 (omega arith))))
    (λ e. absurd (omega (arith, e)), omega arith, omega arith, λ same. absurd (omega (arith, same 0 (omega arith)))) (λ s h. h.0 refl)

equal_costs_meet_garp : (s t : ℕ) → s < 2 → t < 2 → ¬ IsWeakGarpPair equal_costs s t
equal_costs_meet_garp zero zero a b h = h.0 refl
equal_costs_meet_garp (suc zero) (suc zero) a b h = h.0 refl
equal_costs_meet_garp zero (suc zero) a b h = absurd (omega (arith, h.2))
equal_costs_meet_garp (suc zero) zero a b h = absurd (omega (arith, h.2))
equal_costs_meet_garp zero (suc (suc t)) a b h = absurd (omega arith)
equal_costs_meet_garp (suc zero) (suc (suc t)) a b h = absurd (omega arith)
equal_costs_meet_garp (suc (suc s)) t a b h = absurd (omega arith)

abbrev same_choice : TableInput
same_choice = table 2 2 ((1 ∷ 1 ∷ []) ∷ (1 ∷ 1 ∷ []) ∷ []) ((1 ∷ 2 ∷ []) ∷ (1 ∷ 2 ∷ []) ∷ [])

same_choice_meets_warp : ¬ IsWarpPair same_choice 0 1
same_choice_meets_warp h = h.3 same
  where
    same : SameBundle same_choice 0 1
    same zero l = refl
    same (suc zero) l = refl
    same (suc (suc g)) l = absurd (omega arith)

-- ---- a choice that nothing contradicts: no pair violates any axiom

abbrev order : TableInput
order = table 2 2 ((1 ∷ 1 ∷ []) ∷ (1 ∷ 1 ∷ []) ∷ []) ((4 ∷ 4 ∷ []) ∷ (2 ∷ 2 ∷ []) ∷ [])

second_stays : (t : ℕ) (w : List ℕ) → LeadsTo 2 (IsWeak order.cost) 1 t w → 1 ≡ t
second_stays t [] h = h.1
second_stays t (zero ∷ w) h = absurd (omega (arith, h.1))
second_stays t (suc zero ∷ w) h = second_stays t w h.2
second_stays t (suc (suc x) ∷ w) h = absurd (omega (arith, starts_below 2 (IsWeak order.cost) (suc (suc x)) t w h.2))

second_reaches_nothing : (walk : List ℕ) → ¬ IsWalk 2 (IsWeak order.cost) 1 0 walk
second_reaches_nothing [] h = h
second_reaches_nothing (x ∷ w) h =
    let e = second_stays 0 w (subst (λ z. LeadsTo 2 (IsWeak order.cost) z 0 w) h.0 h.1) in
    absurd (omega (arith, e))

order_meets_garp : (s t : ℕ) → s < 2 → t < 2 → ¬ IsGarpPair order s t
order_meets_garp zero zero a b h = h.0 refl
order_meets_garp (suc zero) (suc zero) a b h = h.0 refl
order_meets_garp zero (suc zero) a b h = absurd (omega (arith, h.2))
order_meets_garp (suc zero) zero a b h = second_reaches_nothing h.1.0 h.1.1
order_meets_garp zero (suc (suc t)) a b h = absurd (omega arith)
order_meets_garp (suc zero) (suc (suc t)) a b h = absurd (omega arith)
order_meets_garp (suc (suc s)) t a b h = absurd (omega arith)

order_meets_weak_garp : (s t : ℕ) → s < 2 → t < 2 → ¬ IsWeakGarpPair order s t
order_meets_weak_garp zero zero a b h = h.0 refl
order_meets_weak_garp (suc zero) (suc zero) a b h = h.0 refl
order_meets_weak_garp zero (suc zero) a b h = absurd (omega (arith, h.2))
order_meets_weak_garp (suc zero) zero a b h = absurd (omega (arith, h.1))
order_meets_weak_garp zero (suc (suc t)) a b h = absurd (omega arith)
order_meets_weak_garp (suc zero) (suc (suc t)) a b h = absurd (omega arith)
order_meets_weak_garp (suc (suc s)) t a b h = absurd (omega arith)

order_meets_warp : (s t : ℕ) → s < 2 → t < 2 → ¬ IsWarpPair order s t
order_meets_warp zero zero a b h = h.0 refl
order_meets_warp (suc zero) (suc zero) a b h = h.0 refl
order_meets_warp zero (suc zero) a b h = absurd (omega (arith, h.2))
order_meets_warp (suc zero) zero a b h = absurd (omega (arith, h.1))
order_meets_warp zero (suc (suc t)) a b h = absurd (omega arith)
order_meets_warp (suc zero) (suc (suc t)) a b h = absurd (omega arith)
order_meets_warp (suc (suc s)) t a b h = absurd (omega arith)

order_meets_sarp : (s t : ℕ) → s < 2 → t < 2 → ¬ IsSarpPair order s t
order_meets_sarp zero zero a b h = h.0 refl
order_meets_sarp (suc zero) (suc zero) a b h = h.0 refl
order_meets_sarp zero (suc zero) a b h = absurd (omega (arith, h.2))
order_meets_sarp (suc zero) zero a b h = second_reaches_nothing h.1.0 h.1.1
order_meets_sarp zero (suc (suc t)) a b h = absurd (omega arith)
order_meets_sarp (suc zero) (suc (suc t)) a b h = absurd (omega arith)
order_meets_sarp (suc (suc s)) t a b h = absurd (omega arith)

none_in_a_pair : (s : ℕ) → s < 2 → ¬ IsInGarpPair order s
none_in_a_pair s l h = elim h.2 [
  | inl a ↦ order_meets_garp s h.0 l h.1 a
  | inr b ↦ order_meets_garp h.0 s h.1 l b
]

counts_of_order : AreViolationCounts order 0 0 0 0 0
counts_of_order = record {
  garp_is = no_pairs 2 (IsGarpPair order) order_meets_garp;
  weak_garp_is = no_pairs 2 (IsWeakGarpPair order) order_meets_weak_garp;
  warp_is = no_pairs 2 (IsWarpPair order) order_meets_warp;
  sarp_is = no_pairs 2 (IsSarpPair order) order_meets_sarp;
  observations_is = none_of 2 (IsInGarpPair order) none_in_a_pair;
}

-- ---- a bundle of equal cost and one that is cheaper: the second observation is only the second of a pair

abbrev one_way : TableInput
one_way = table 2 2 ((1 ∷ 1 ∷ []) ∷ (2 ∷ 1 ∷ []) ∷ []) ((1 ∷ 1 ∷ []) ∷ (2 ∷ 0 ∷ []) ∷ [])

first_then_second : IsGarpPair one_way 0 1
first_then_second =
    (λ e. absurd (omega (arith, e)), (0 ∷ 1 ∷ [], (refl, (omega arith, omega arith, (omega arith, refl))), omega arith), omega arith)

second_is_first_of_none : (t : ℕ) → t < 2 → ¬ IsGarpPair one_way 1 t
second_is_first_of_none zero l h = absurd (omega (arith, h.2))
second_is_first_of_none (suc zero) l h = h.0 refl
second_is_first_of_none (suc (suc t)) l h = absurd (omega arith)

both_in_one_pair : IsNumberOf 2 (IsInGarpPair one_way) 2
both_in_one_pair = both_of_two (IsInGarpPair one_way) (1, omega arith, inl first_then_second) (0, omega arith, inr first_then_second)

-- ---- ordered pairs of two observations

two_have_two_pairs : all_pairs 2 ≡ 2
two_have_two_pairs = refl

three_have_six_pairs : all_pairs 3 ≡ 6
three_have_six_pairs = refl
