-- Accepted evidence proves the bound: a consistent set has at most one observation of a group whose members contradict
-- each other, and not all of a violation. So, where the weights on each observation are the denominator or more, the
-- denominator times its size is at most what the groups allow (duality of linear programming).
use Rattle.std.proofs.Common.{◌≡◌, ◌≢◌, ◌<◌, ◌≤◌, ◌+◌, ◌-◌, ◌*◌, ◌/◌, ◌==◌, ◌||◌, ◌⊎◌, inl, inr, ℕ, zero, suc, Bool, true, false, List, [], ◌∷◌, length, filter, cond, Result, Ok, Err, refl, sym, ap, subst, ◌∙◌, arith, Contains, AllPairs, get_or, slice_index, slice_index_or, if◌then◌else◌}
use Rattle.std.specs.Prelude.{IfOk}
use Rattle.std.specs.Cmp.{nat_eq_equiv}
use Rattle.std.proofs.Math.Nat.{mul-le-mul_left}
use Rattle.std.proofs.lemmas.Bool.{cases_eq, cases_lt, false≢true}
use Rattle.std.proofs.lemmas.Bool.Decides.{Decides-eqb}
use Rattle.std.proofs.lemmas.List.{get_or_default}
use Rattle.std.proofs.lemmas.List.Kept.{AllPairs-cons, AllPairs-filter, AllPairs-from_increasing}
use Rattle.std.proofs.lemmas.List.Sums.{sum_by-cons}
use Rattle.std.proofs.lemmas.Nat.{le-div}
use Rattle.std.proofs.lemmas.Map.Made.{IsDistinct-from_AllPairs, is_member-Decides, length-le_from_is_member}
use Rattle.rp_evidence.specs.Garp.{IsViolation}
use Rattle.rp_evidence.specs.Preference.{IsStrict, IsWeak}
use Rattle.rp_evidence.specs.Walk.{LeadsTo}
use Rattle.rp_evidence.specs.declared.failure.Failure.{Failure}
use Rattle.rp_evidence.proofs.Violations.{violation_leads}
use Rattle.rp_fit.specs.Kept.{IsConsistent, IsSetOfObservations, LiesWithin, NoneKeepsMore}
use Rattle.rp_fit.proofs.ConsistentSets.{consistent_by_ranks}
use Rattle.rp_fit.specs.Groups.{AllContradict, AreOfKind, Contradict, allowed_by, allowed_of, is_among, weight_on}
use Rattle.rp_fit.specs.KeptEvidence.{ProvesKept}
use Rattle.rp_check_fit.specs.KeptFailure.{GroupsFail, KeptFails, group_at}
use Rattle.rp_fit.specs.declared.kept.Group.{Group}
use Rattle.rp_fit.specs.declared.kept.GroupKind.{GroupKind}
use Rattle.rp_fit.specs.declared.kept.GroupKind.TheVariants.{Pairs, Cycle}
use Rattle.rp_fit.specs.declared.kept.KeptPart.{KeptPart}

-- ---- members

contains_later : (x : ℕ) (xs : List ℕ) (t : ℕ) → Contains xs t → Contains (x ∷ xs) t
contains_later x xs t there = (suc there.0, omega (arith, there.1), there.2)

contains_cases : (x : ℕ) (xs : List ℕ) (t : ℕ) → Contains (x ∷ xs) t → (x ≡ t) ⊎ Contains xs t
contains_cases x xs t there = go there.0 there.1 there.2
  where
    go : (k : ℕ) → k < suc (length xs) → get_or (x ∷ xs) k t ≡ t → (x ≡ t) ⊎ Contains xs t
    go zero l e = inl e
    go (suc k) l e = inr (k, omega arith, e)

among_is_there : (members : List ℕ) (s : ℕ) → is_among members s ≡ true → Contains members s
among_is_there [] s h = absurd (false≢true h)
among_is_there (m ∷ rest) s h = go (λ d. among_is_there rest s d) (m == s) refl h
  where
    go : (is_among rest s ≡ true → Contains rest s) → (b : Bool) → (m == s) ≡ b → (b || is_among rest s) ≡ true → Contains (m ∷ rest) s
    go later true e h = (0, omega arith, (Decides-eqb m s).0 e)
    go later false e h = contains_later m rest s (later h)

there_is_among : (members : List ℕ) (s : ℕ) → Contains members s → is_among members s ≡ true
there_is_among [] s there = absurd (omega (arith, there.1))
there_is_among (m ∷ rest) s there = go (λ d. there_is_among rest s d) (m == s) refl (contains_cases m rest s there)
  where
    go : (Contains rest s → is_among rest s ≡ true) → (b : Bool) → (m == s) ≡ b → (m ≡ s) ⊎ Contains rest s → (b || is_among rest s) ≡ true
    go later true e h = refl
    go later false e (inl h) = absurd (false≢true (sym e ∙ (Decides-eqb m s).1 h))
    go later false e (inr h) = later h

-- the entries of a list that are among the members
abbrev held : List ℕ → List ℕ → List ℕ
held members set = filter (is_among members) set

held_is_there : (members set : List ℕ) (t : ℕ) → Contains (held members set) t → Contains set t × Contains members t
held_is_there members [] t there = absurd (omega (arith, there.1))
held_is_there members (s ∷ rest) t there = go (λ h. held_is_there members rest t h) (is_among members s) refl there
  where
    go : (Contains (held members rest) t → Contains rest t × Contains members t) → (b : Bool) → is_among members s ≡ b
        → Contains (cond b (s ∷ held members rest) (held members rest)) t → Contains (s ∷ rest) t × Contains members t
    go later false e h = let r = later h in (contains_later s rest t r.0, r.1)
    go later true e h = elim (contains_cases s (held members rest) t h) [
      | inl same ↦ ((0, omega arith, same), subst (λ z. Contains members z) same (among_is_there members s e))
      | inr more ↦ (let r = later more in (contains_later s rest t r.0, r.1))
    ]

-- a list that has none twice is no longer than one that has all its entries
none_twice_is_shorter : (xs ys : List ℕ) → AllPairs (λ x y. x ≢ y) xs → ((t : ℕ) → Contains xs t → Contains ys t) → length xs ≤ length ys
none_twice_is_shorter xs ys apart inside =
    length-le_from_is_member nat_eq_equiv xs ys (IsDistinct-from_AllPairs Decides-eqb xs apart)
    (λ q h. (is_member-Decides Decides-eqb ys q).1 (inside q ((is_member-Decides Decides-eqb xs q).0 h)))

-- all entries of a walk are in the set, or one is not
all_within_or_not : (set walk : List ℕ) → LiesWithin set walk ⊎ ((y : ℕ) × Contains walk y × (¬ Contains set y))
all_within_or_not set [] = inl (λ s there. absurd (omega (arith, there.1)))
all_within_or_not set (x ∷ rest) = go (is_among set x) refl (all_within_or_not set rest)
  where
    go : (b : Bool) → is_among set x ≡ b → LiesWithin set rest ⊎ ((y : ℕ) × Contains rest y × (¬ Contains set y))
        → LiesWithin set (x ∷ rest) ⊎ ((y : ℕ) × Contains (x ∷ rest) y × (¬ Contains set y))
    go false e other = inr (x, (0, omega arith, refl), λ there. absurd (false≢true (sym e ∙ there_is_among set x there)))
    go true e (inr other) = inr (other.0, contains_later x rest other.0 other.1, other.2)
    go true e (inl all) = inl (λ s there. elim (contains_cases x rest s there) [
      | inl same ↦ subst (λ z. Contains set z) same (among_is_there set x e)
      | inr more ↦ all s more
    ])

-- a walk that begins with a step ends with an entry after its first
ends_there : (n : ℕ) (step : ℕ → ℕ → Type 0) (s t x : ℕ) (w : List ℕ) → LeadsTo n step s t (x ∷ w) → Contains (x ∷ w) t
ends_there n step s t x [] h = (0, omega arith, h.2.1)
ends_there n step s t x (y ∷ w) h = contains_later x (y ∷ w) t (ends_there n step x t y w h.2)

module _ (n : ℕ) (c : ℕ → ℕ → ℕ) (set : List ℕ) (is_set : IsSetOfObservations n set) (consistent : IsConsistent n c set) where
  -- ---- two that contradict each other are not both in a consistent set

  two_within : (s t : ℕ) → Contains set s → Contains set t → LiesWithin set (s ∷ t ∷ s ∷ [])
  two_within s t in_s in_t y there = go there.0 there.1 there.2
    where
      go : (k : ℕ) → k < 3 → slice_index_or (s ∷ t ∷ s ∷ []) k y ≡ y → Contains set y
      go zero l e = subst (λ z. Contains set z) e in_s
      go (suc zero) l e = subst (λ z. Contains set z) e in_t
      go (suc (suc zero)) l e = subst (λ z. Contains set z) e in_s
      go (suc (suc (suc k))) l e = absurd (omega arith)

  one_way : (s t : ℕ) → Contains set s → Contains set t → IsWeak c s t → ¬ IsStrict c t s
  one_way s t in_s in_t weak strict =
      consistent (s ∷ t ∷ s ∷ []) (two_within s t in_s in_t)
      ((s, (refl, (is_set.observed s in_s, weak, (is_set.observed t in_t, omega (arith, strict), (is_set.observed s in_s, refl)))), omega arith), inr (inl strict))

  none_contradict : (s t : ℕ) → Contains set s → Contains set t → ¬ Contradict c s t
  none_contradict s t in_s in_t (inl h) = one_way s t in_s in_t h.0 h.1
  none_contradict s t in_s in_t (inr h) = one_way t s in_t in_s h.0 h.1

  entry : (members : List ℕ) (s : ℕ) (there : Contains members s) → slice_index members there.0 ≡ s
  entry members s there = get_or_default members there.0 0 s there.1 ∙ there.2

  members_contradict : (members : List ℕ) → AllContradict n c members → (i j s t : ℕ) → i < j → j < length members → slice_index members i ≡ s → slice_index members j ≡ t → Contradict c s t
  members_contradict members all i j s t l j_in at_s at_t =
      subst (λ z. Contradict c z t) at_s (subst (λ z. Contradict c (slice_index members i) z) at_t (all.each_two i j l j_in))

  two_members : (members : List ℕ) → AllContradict n c members → (s t : ℕ) → s ≢ t → Contains set s → Contains set t → Contains members s → Contains members t → ⊥
  two_members members all s t differ in_s in_t there_s there_t = go (cases_lt there_s.0 there_t.0) (cases_eq there_s.0 there_t.0)
    where
      at_s : slice_index members there_s.0 ≡ s
      at_s = entry members s there_s

      at_t : slice_index members there_t.0 ≡ t
      at_t = entry members t there_t

      go : (there_s.0 < there_t.0) ⊎ (there_t.0 ≤ there_s.0) → (there_s.0 ≡ there_t.0) ⊎ (there_s.0 ≢ there_t.0) → ⊥
      go (inl l) e = none_contradict s t in_s in_t (members_contradict members all there_s.0 there_t.0 s t l there_t.1 at_s at_t)
      go (inr l) (inl e) = differ (sym at_s ∙ ap (λ k. slice_index members k) e ∙ at_t)
      go (inr l) (inr d) = none_contradict t s in_t in_s (members_contradict members all there_t.0 there_s.0 t s (omega (arith, l, d)) there_s.1 at_t at_s)

  set_apart : AllPairs (λ x y. x ≢ y) set
  set_apart i j d before within e = absurd (omega (arith, AllPairs-from_increasing set is_set.rising i j d before within, e))

  held_apart : (members : List ℕ) → AllPairs (λ x y. x ≢ y) (held members set)
  held_apart members = AllPairs-filter (λ x y. x ≢ y) (is_among members) set set_apart

  pub one_of_pairs : (members : List ℕ) → AllContradict n c members → length (held members set) ≤ 1
  one_of_pairs members all = elim (cases_lt 1 (length (held members set))) [
    | inl l ↦
        let s = slice_index (held members set) 0 in
        let t = slice_index (held members set) 1 in
        let in_s = held_is_there members set s (0, omega arith, get_or_default (held members set) 0 s 0 (omega arith)) in
        let in_t = held_is_there members set t (1, l, get_or_default (held members set) 1 t 0 l) in
        absurd (two_members members all s t (held_apart members 0 1 0 (omega arith) l) in_s.0 in_t.0 in_s.1 in_t.1)
    | inr l ↦ l
  ]

  -- ---- a violation is not all in a consistent set

  rest_of_walk : (x : ℕ) (rest : List ℕ) → IsViolation n (IsWeak c) (IsStrict c) (x ∷ rest) → (t : ℕ) → Contains (x ∷ rest) t → Contains rest t
  rest_of_walk x [] v t there = absurd (omega (arith, v.0.2))
  rest_of_walk x (y ∷ w) v t there =
      let q = violation_leads n (IsWeak c) (IsStrict c) x (y ∷ w) v in
      elim (contains_cases x (y ∷ w) t there) [
        | inl same ↦ subst (λ z. Contains (y ∷ w) z) same (ends_there n (IsWeak c) x x y w q.0)
        | inr more ↦ more
      ]

  fewer_of_walk : (x : ℕ) (rest : List ℕ) → IsViolation n (IsWeak c) (IsStrict c) (x ∷ rest) → (y : ℕ) → Contains (x ∷ rest) y → ¬ Contains set y → suc (length (held (x ∷ rest) set)) ≤ length rest
  fewer_of_walk x rest v y there missing =
      none_twice_is_shorter (y ∷ held (x ∷ rest) set) rest (AllPairs-cons (λ a b. a ≢ b) y (held (x ∷ rest) set) away (held_apart (x ∷ rest))) inside
    where
      away : (i : ℕ) (d : ℕ) → i < length (held (x ∷ rest) set) → y ≢ get_or (held (x ∷ rest) set) i d
      away i d l e =
          missing (subst (λ z. Contains set z) (sym e) (held_is_there (x ∷ rest) set (get_or (held (x ∷ rest) set) i d) (i, l, get_or_default (held (x ∷ rest) set) i (get_or (held (x ∷ rest) set) i d) d l)).0)

      inside : (t : ℕ) → Contains (y ∷ held (x ∷ rest) set) t → Contains rest t
      inside t h = elim (contains_cases y (held (x ∷ rest) set) t h) [
        | inl same ↦ rest_of_walk x rest v t (subst (λ z. Contains (x ∷ rest) z) same there)
        | inr more ↦ rest_of_walk x rest v t (held_is_there (x ∷ rest) set t more).1
      ]

  pub not_all_of_violation : (walk : List ℕ) → IsViolation n (IsWeak c) (IsStrict c) walk → length (held walk set) ≤ length walk - 2
  not_all_of_violation [] v = absurd v.1
  not_all_of_violation (x ∷ rest) v = elim (all_within_or_not set (x ∷ rest)) [
    | inl all ↦ absurd (consistent (x ∷ rest) all v)
    | inr one ↦ (let l = fewer_of_walk x rest v one.0 one.1 one.2 in omega (arith, l))
  ]

  held_as_allowed : (kind : GroupKind) (members : List ℕ) → AreOfKind n c kind members → length (held members set) ≤ allowed_of kind members
  held_as_allowed Pairs members all = one_of_pairs members all
  held_as_allowed Cycle members simple = not_all_of_violation members simple.violates

  -- ---- weights, added over the set

  abbrev weights_over : List Group → List ℕ → ℕ
  weights_over groups [] = 0
  weights_over groups (s ∷ rest) = weight_on groups s + weights_over groups rest

  covered : (groups : List Group) (den : ℕ) (xs : List ℕ) → ((s : ℕ) → Contains xs s → den ≤ weight_on groups s) → den * length xs ≤ weights_over groups xs
  covered groups den [] each = omega arith
  covered groups den (s ∷ rest) each =
      let here = each s (0, omega arith, refl) in
      let more = covered groups den rest (λ t there. each t (contains_later s rest t there)) in
      omega (arith, here, more)

  no_groups : (xs : List ℕ) → weights_over [] xs ≡ 0
  no_groups [] = refl
  no_groups (s ∷ rest) = let h = no_groups rest in omega (arith, h)

  weight_of_one : (group : Group) (groups : List Group) (s : ℕ) → weight_on (group ∷ groups) s ≡ (if is_among group.members s then group.weight else 0) + weight_on groups s
  weight_of_one group groups s = sum_by-cons (λ (g : Group). if is_among g.members s then g.weight else 0) group groups

  one_more_group : (group : Group) (groups : List Group) (xs : List ℕ) → weights_over (group ∷ groups) xs ≡ group.weight * length (held group.members xs) + weights_over groups xs
  one_more_group group groups [] = omega arith
  one_more_group group groups (s ∷ rest) = go (is_among group.members s) (weight_of_one group groups s) (one_more_group group groups rest)
    where
      go : (b : Bool) → weight_on (group ∷ groups) s ≡ (if b then group.weight else 0) + weight_on groups s
          → weights_over (group ∷ groups) rest ≡ group.weight * length (held group.members rest) + weights_over groups rest
          → weight_on (group ∷ groups) s + weights_over (group ∷ groups) rest
          ≡ group.weight * length (cond b (s ∷ held group.members rest) (held group.members rest)) + (weight_on groups s + weights_over groups rest)
      go true e f = omega (arith, e, f)
      go false e f = omega (arith, e, f)

  as_allowed : (groups : List Group) → ((k : ℕ) → k < length groups → AreOfKind n c (group_at groups k).kind (group_at groups k).members) → weights_over groups set ≤ allowed_by groups
  as_allowed [] each = omega (arith, no_groups set)
  as_allowed (group ∷ groups) each =
      let here = mul-le-mul_left group.weight (held_as_allowed group.kind group.members (each 0 (omega arith))) in
      let more = as_allowed groups (λ k l. each (suc k) (omega arith)) in
      let e = sum_by-cons (λ (g : Group). g.weight * allowed_of g.kind g.members) group groups in
      omega (arith, one_more_group group groups set, here, more, e)

  pub bounded : (groups : List Group) (den most : ℕ) → 1 ≤ den → ((k : ℕ) → k < length groups → AreOfKind n c (group_at groups k).kind (group_at groups k).members)
      → ((s : ℕ) → s < n → den ≤ weight_on groups s) → allowed_by groups / den ≡ most → length set ≤ most
  bounded groups den most positive kinds weights is =
      let low = covered groups den set (λ s there. weights s (is_set.observed s there)) in
      let high = as_allowed groups kinds in
      at_most den (length set) (allowed_by groups) most positive (omega (arith, low, high)) is
    where
      at_most : (d size allowed most : ℕ) → 1 ≤ d → d * size ≤ allowed → allowed / d ≡ most → size ≤ most
      at_most d size allowed most positive l e =
          let h : size ≤ allowed / d = le-div size allowed d (omega (arith, positive)) (omega (arith, l)) in
          omega (arith, h, e)

-- ---- all clauses

kept_is_set : (n : ℕ) (kept : List ℕ) → ((k : ℕ) → k < length kept → slice_index kept k < n) → ((k : ℕ) → k < length kept - 1 → slice_index kept k < slice_index kept (k + 1)) → IsSetOfObservations n kept
kept_is_set n kept observed rising = record {
  rising = λ k l. rising k (omega arith);
  observed = λ s there. subst (λ z. z < n) (get_or_default kept there.0 0 s there.1 ∙ there.2) (observed there.0 there.1);
}

pub kept_proves : (n : ℕ) (c : ℕ → ℕ → ℕ) (part : KeptPart) (r : Result (Unit {0}) Failure) → KeptFails n c part r → IfOk r (λ done. ProvesKept n c part)
kept_proves n c part (Err e) found = tt
kept_proves n c part (Ok done) (den, (kept, (groups, (bound, (enough, end))))) =
    let is_set = kept_is_set n part.kept kept.1.0 kept.1.1.0 in
    let is_consistent = consistent_by_ranks n c part.kept part.ranks is_set (record {
      one_each = kept.0;
      weak_never_rises = λ i j i_in j_in. (kept.1.1.1.0 i i_in j j_in).0;
      strict_falls = λ i j i_in j_in. (kept.1.1.1.0 i i_in j j_in).1;
    }) in
    let none : NoneKeepsMore n c part.most =
    λ set set_is set_consistent. bounded n c set set_is set_consistent part.groups part.den part.most den (λ k l. (groups k l).1.0) bound.0 bound.1.0 in
    record {
      set = is_set;
      consistent = is_consistent;
      none_more = none;
      within = enough;
      index = λ meets. record { reached = (part.kept, is_set, is_consistent, meets); greatest = none };
    }

-- ---- what groups that pass allow is small

pub few_allowed : (n limit : ℕ) (c : ℕ → ℕ → ℕ) (groups : List Group) → 1 ≤ limit → n ≤ limit → GroupsFail n c groups (Ok tt) → (k : ℕ) → k < length groups → allowed_of (group_at groups k).kind (group_at groups k).members ≤ limit
few_allowed n limit c groups some small found k l = by (group_at groups k).kind (group_at groups k).members (found k l).1.0
  where
    by : (kind : GroupKind) (members : List ℕ) → AreOfKind n c kind members → allowed_of kind members ≤ limit
    by Pairs members all = some
    by Cycle members simple = omega (arith, simple.few)
