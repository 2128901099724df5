-- Patches without units that are added to others change nothing. A type is carried over patch by patch, and violations
-- with it, since walks are over the budgets, which stay. Back go the types that weigh something: on a patch without
-- units nothing may weigh, so each patch that they use is one of those that were there.
use Rattle.std.proofs.Common.{◌≡◌, ◌≢◌, ◌<◌, ◌≤◌, ◌⊎◌, ◌↔◌, ◌+◌, ◌*◌, ◌==◌, ◌||◌, inl, inr, ℕ, ℤ, zero, suc, pos, ◌≤ℤ◌, ◌<ℤ◌, Bool, true, false, List, [], ◌∷◌, Contains, None, length, map, slice_index, slice_index_or, sum_by, refl, sym, ap, subst, ◌∙◌, arith, if◌then◌else◌}
use Rattle.std.proofs.lemmas.Bool.{cases_eq, eq-eqb, ne_eqb}
use Rattle.std.proofs.lemmas.List.{get_or-map, length-map}
use Rattle.rp_evidence.specs.Garp.{IsViolation}
use Rattle.rp_evidence.specs.declared.random.Share.{Share}
use Rattle.rp_evidence.proofs.Violations.{violates_by_weaker}
use Rattle.rp_patch.specs.Added.{AddsPatches}
use Rattle.rp_patch.specs.Kinds.{uses, weight_of}
use Rattle.rp_patch.specs.Mixtures.{HasMixture, IsGreatestShare, IsMixture, IsPartialMixture, types_on}
use Rattle.rp_patch.specs.Patches.{PatchList, budget_at, sign_at, units_at}
use Rattle.rp_patch.specs.Types.{IsRationalType, IsStrictBy, IsWeakBy}
use Rattle.rp_patch.specs.declared.patch_list.Patch.{Patch}
use Rattle.rp_patch.proofs.KindWeights.{of_cons, on_cons as on_cons_of, uses_some}

-- how much there is of the types that take patch i, on whichever patches
abbrev weight_on : List Share → ℕ → ℕ
weight_on parts i = sum_by (λ part. if uses part.patches i then part.weight else 0) parts

on_cons : (part : Share) (parts : List Share) (i : ℕ) → weight_on (part ∷ parts) i ≡ (if uses part.patches i then part.weight else 0) + weight_on parts i
on_cons part parts i = on_cons_of (types_on (record { budgets = 0; patches = []; total = 0; asked = None })) part parts i

module _ (p q : PatchList) (place : ℕ → ℕ) (adds : AddsPatches p q place) where
  abbrev n : ℕ
  n = length p.patches

  place_at : (type : List ℕ) (j : ℕ) → j < length type → slice_index (map place type) j ≡ place (slice_index type j)
  place_at type j l = get_or-map place type j 0 0 l

  units_same : (i : ℕ) → i < n → units_at q (place i) ≡ units_at p i
  units_same i l = ap (λ (x : Patch). x.units) (adds.same i l)

  budget_same : (i : ℕ) → i < n → budget_at q (place i) ≡ budget_at p i
  budget_same i l = ap (λ (x : Patch). x.budget) (adds.same i l)

  sign_same : (i k : ℕ) → i < n → sign_at q (place i) k ≡ sign_at p i k
  sign_same i k l = ap (λ (x : Patch). slice_index_or x.signs k (pos 0)) (adds.same i l)

  abbrev AllIn : List ℕ → Type 0
  AllIn type = (j : ℕ) → j < length type → slice_index type j < n

  sign_there : (type : List ℕ) → AllIn type → (s t : ℕ) → t < length type → sign_at q (slice_index (map place type) t) s ≡ sign_at p (slice_index type t) s
  sign_there type all s t l = ap (λ i. sign_at q i s) (place_at type t l) ∙ sign_same (slice_index type t) s (all t l)

  moved_rational : (type : List ℕ) → IsRationalType p type → IsRationalType q (map place type)
  moved_rational type r = (
    record {
      one_each = length-map type place ∙ r.0.one_each ∙ sym adds.budgets;
      patch = λ j below. let l = inside j below in rw (place_at type j l) (adds.goes_to (slice_index type j) (all j l));
      on_its_budget = λ j below. let l = inside j below in ap (budget_at q) (place_at type j l) ∙ budget_same (slice_index type j) (all j l) ∙ r.0.on_its_budget j (omega (arith, below, adds.budgets));
    },
    λ walk v. r.1 walk (subst (λ m. IsViolation m (IsWeakBy p type) (IsStrictBy p type) walk) adds.budgets
        (violates_by_weaker q.budgets (IsWeakBy q (map place type)) (IsStrictBy q (map place type)) (IsWeakBy p type) (IsStrictBy p type)
        (λ s t s_in t_in w. subst (λ (z : ℤ). z ≤ℤ pos 0) (sign_there type all s t (inside t t_in)) w)
        (λ s t s_in t_in w. subst (λ (z : ℤ). z <ℤ pos 0) (sign_there type all s t (inside t t_in)) w) walk v)),
  )
    where
      all : AllIn type
      all j l = r.0.patch j (omega (arith, l, r.0.one_each))

      inside : (j : ℕ) → j < q.budgets → j < length type
      inside j below = omega (arith, below, adds.budgets, r.0.one_each)

  unmoved_rational : (type : List ℕ) → AllIn type → IsRationalType q (map place type) → IsRationalType p type
  unmoved_rational type all r = (
    record {
      one_each = long;
      patch = λ j below. all j (omega (arith, below, long));
      on_its_budget = λ j below. let l : j < length type = omega (arith, below, long) in
          sym (budget_same (slice_index type j) (all j l)) ∙ ap (budget_at q) (sym (place_at type j l)) ∙ r.0.on_its_budget j (omega (arith, below, adds.budgets));
    },
    λ walk v. r.1 walk (subst (λ m. IsViolation m (IsWeakBy q (map place type)) (IsStrictBy q (map place type)) walk) (sym adds.budgets)
        (violates_by_weaker p.budgets (IsWeakBy p type) (IsStrictBy p type) (IsWeakBy q (map place type)) (IsStrictBy q (map place type))
        (λ s t s_in t_in w. subst (λ (z : ℤ). z ≤ℤ pos 0) (sym (sign_there type all s t (omega (arith, t_in, long)))) w)
        (λ s t s_in t_in w. subst (λ (z : ℤ). z <ℤ pos 0) (sym (sign_there type all s t (omega (arith, t_in, long)))) w) walk v)),
  )
    where
      long : length type ≡ p.budgets
      long = sym (length-map type place) ∙ r.0.one_each ∙ adds.budgets

  -- ---- the patch that went to a place

  find : ℕ → ℕ → ℕ
  find zero k = 0
  find (suc m) k = if place m == k then m else find m k

  found : (m k i : ℕ) → i < m → place i ≡ k → (place (find m k) ≡ k) × (find m k < m)
  unfolding find
  found zero k i l e = absurd (omega (arith, l))
  found (suc m) k i l e = elim (cases_eq (place m) k) [
    | inl is ↦
        let here : find (suc m) k ≡ m = ap (λ b. if b then m else find m k) (eq-eqb (place m) k is) in
        (ap place here ∙ is, omega (arith, here))
    | inr d ↦
        let here : find (suc m) k ≡ find m k = ap (λ b. if b then m else find m k) (ne_eqb (place m) k d) in
        let apart : i ≢ m = λ is. d (ap place (sym is) ∙ e) in
        let rest = found m k i (omega (arith, l, apart)) e in
        (ap place here ∙ rest.0, omega (arith, here, rest.1))
  ]

  image : (m k : ℕ) → ((i : ℕ) × (i < m) × (place i ≡ k)) ⊎ ((i : ℕ) → i < m → place i ≢ k)
  image zero k = inr (λ i l. absurd (omega (arith, l)))
  image (suc m) k = elim (cases_eq (place m) k) [
    | inl is ↦ inl (m, omega arith, is)
    | inr d ↦ elim (image m k) [
      | inl h ↦ inl (h.0, omega (arith, h.1), h.2)
      | inr none ↦ inr (λ i l. elim (cases_eq i m) [ inl e ↦ (λ is. d (ap place (sym e) ∙ is)) | inr a ↦ none i (omega (arith, l, a)) ])
    ]
  ]

  abbrev AllFound : List ℕ → Type 0
  AllFound type = (j : ℕ) → j < length type → (i : ℕ) × (i < n) × (place i ≡ slice_index type j)

  back_in : (type : List ℕ) → AllFound type → AllIn (map (find n) type)
  back_in type all j l =
      let m = length-map type (find n) in
      let inside : j < length type = omega (arith, l, m) in
      let h = all j inside in
      let f = found n (slice_index type j) h.0 h.1 h.2 in
      rw (get_or-map (find n) type j 0 0 inside) f.1

  there_and_back : (type : List ℕ) → AllFound type → map place (map (find n) type) ≡ type
  there_and_back [] all = refl
  there_and_back (k ∷ type) all =
      let h = all 0 (omega arith) in
      let f = found n k h.0 h.1 h.2 in
      λ z. f.0 z ∷ there_and_back type (λ j l. all (suc j) (omega (arith, l))) z

  brought_rational : (type : List ℕ) → AllFound type → IsRationalType q type → IsRationalType p (map (find n) type)
  brought_rational type all r = unmoved_rational (map (find n) type) (back_in type all) (subst (λ (t : List ℕ). IsRationalType q t) (sym (there_and_back type all)) r)

  -- ---- what types use

  uses_moved : (type : List ℕ) (i : ℕ) → AllIn type → i < n → uses (map place type) (place i) ≡ uses type i
  uses_moved [] i all l = refl
  uses_moved (x ∷ type) i all l = λ z. same (cases_eq x i) z || uses_moved type i (λ j k. all (suc j) (omega (arith, k))) l z
    where
      same : (x ≡ i) ⊎ (¬ (x ≡ i)) → (place x == place i) ≡ (x == i)
      same (inl e) = eq-eqb (place x) (place i) (ap place e) ∙ sym (eq-eqb x i e)
      same (inr d) = ne_eqb (place x) (place i) (λ e. d (adds.apart x i (all 0 (omega arith)) l e)) ∙ sym (ne_eqb x i d)

  uses_outside : (type : List ℕ) (k : ℕ) → AllIn type → ((i : ℕ) → i < n → place i ≢ k) → uses (map place type) k ≡ false
  uses_outside [] k all none = refl
  uses_outside (x ∷ type) k all none =
      (λ z. ne_eqb (place x) k (none x (all 0 (omega arith))) z || uses_outside type k (λ j l. all (suc j) (omega (arith, l))) none z)

  uses_brought : (type : List ℕ) (i : ℕ) → AllFound type → i < n → uses (map (find n) type) i ≡ uses type (place i)
  uses_brought type i all l = sym (uses_moved (map (find n) type) i (back_in type all) l) ∙ ap (λ t. uses t (place i)) (there_and_back type all)

  -- ---- parts moved there

  moved : List Share → List Share
  moved [] = []
  moved (part ∷ parts) = record { patches = map place part.patches; weight = part.weight } ∷ moved parts

  abbrev AllRational : List Share → Type 0
  AllRational parts = (part : Share) → Contains parts part → IsRationalType p part.patches

  abbrev AllThere : List Share → Type 0
  AllThere parts = (part : Share) → Contains parts part → IsRationalType q part.patches

  tail_rational : (part : Share) (parts : List Share) → AllRational (part ∷ parts) → AllRational parts
  tail_rational part parts all x h = all x (suc h.0, omega (arith, h.1), h.2)

  tail_there : (part : Share) (parts : List Share) → AllThere (part ∷ parts) → AllThere parts
  tail_there part parts all x h = all x (suc h.0, omega (arith, h.1), h.2)

  in_of : (part : Share) (parts : List Share) → AllRational (part ∷ parts) → AllIn part.patches
  in_of part parts all j l = let r = all part (0, omega arith, refl) in r.0.patch j (omega (arith, l, r.0.one_each))

  moved_there : (parts : List Share) → AllRational parts → AllThere (moved parts)
  unfolding moved
  moved_there [] all x h = absurd (omega (arith, h.1))
  moved_there (part ∷ parts) all x (zero, l, e) = subst (λ (y : Share). IsRationalType q y.patches) e (moved_rational part.patches (all part (0, omega arith, refl)))
  moved_there (part ∷ parts) all x (suc k, l, e) = moved_there parts (tail_rational part parts all) x (k, omega (arith, l), e)

  moved_on : (parts : List Share) (i : ℕ) → AllRational parts → i < n → weight_on (moved parts) (place i) ≡ weight_on parts i
  unfolding moved
  moved_on [] i all l = refl
  moved_on (part ∷ parts) i all l =
      on_cons (record { patches = map place part.patches; weight = part.weight }) (moved parts) (place i)
      ∙ (λ z. (if uses_moved part.patches i (in_of part parts all) l z then part.weight else 0) + moved_on parts i (tail_rational part parts all) l z)
      ∙ sym (on_cons part parts i)

  moved_outside : (parts : List Share) (k : ℕ) → AllRational parts → ((i : ℕ) → i < n → place i ≢ k) → weight_on (moved parts) k ≡ 0
  unfolding moved
  moved_outside [] k all none = refl
  moved_outside (part ∷ parts) k all none =
      on_cons (record { patches = map place part.patches; weight = part.weight }) (moved parts) k
      ∙ (λ z. (if uses_outside part.patches k (in_of part parts all) none z then part.weight else 0) + moved_outside parts k (tail_rational part parts all) none z)

  moved_of : (parts : List Share) → weight_of (moved parts) ≡ weight_of parts
  unfolding moved
  moved_of [] = refl
  moved_of (part ∷ parts) = of_cons (record { patches = map place part.patches; weight = part.weight }) (moved parts) ∙ ap (λ k. part.weight + k) (moved_of parts) ∙ sym (of_cons part parts)

  -- ---- parts brought back

  kept : ℕ → List ℕ → List Share → List Share
  kept zero type rest = rest
  kept (suc w) type rest = record { patches = map (find n) type; weight = suc w } ∷ rest

  brought : List Share → List Share
  brought [] = []
  brought (part ∷ parts) = kept part.weight part.patches (brought parts)

  abbrev NoneOnEmpty : List Share → Type 0
  NoneOnEmpty parts = (k : ℕ) → k < length q.patches → units_at q k ≡ 0 → weight_on parts k ≡ 0

  tail_empty : (part : Share) (parts : List Share) → NoneOnEmpty (part ∷ parts) → NoneOnEmpty parts
  tail_empty part parts none k l e = omega (arith, none k l e, on_cons part parts k)

  found_of : (type : List ℕ) (w : ℕ) (parts : List Share) → IsRationalType q type → NoneOnEmpty (record { patches = type; weight = suc w } ∷ parts) → AllFound type
  found_of type w parts r none j l = elim (image n (slice_index type j)) [
    | inl h ↦ h
    | inr absent ↦
        let inside = r.0.patch j (omega (arith, l, r.0.one_each)) in
        elim (adds.others (slice_index type j) inside) [
          | inl h ↦ h
          | inr e ↦
              let all = none (slice_index type j) inside e in
              let apart = on_cons (record { patches = type; weight = suc w }) parts (slice_index type j) in
              let used : (if uses type (slice_index type j) then suc w else 0) ≡ suc w = ap (λ b. if b then suc w else 0) (uses_some type j l) in
              absurd (omega (arith, all, apart, used))
        ]
  ]

  record Brings (parts : List Share) : Type 0 where
    types : AllRational (brought parts)
    on : (i : ℕ) → i < n → weight_on (brought parts) i ≡ weight_on parts (place i)
    of : weight_of (brought parts) ≡ weight_of parts

  brings_kept : (type : List ℕ) (w : ℕ) (parts : List Share) → IsRationalType q type → NoneOnEmpty (record { patches = type; weight = w } ∷ parts) → Brings parts
      → AllRational (kept w type (brought parts)) × ((i : ℕ) → i < n → weight_on (kept w type (brought parts)) i ≡ weight_on (record { patches = type; weight = w } ∷ parts) (place i))
      × (weight_of (kept w type (brought parts)) ≡ weight_of (record { patches = type; weight = w } ∷ parts))
  unfolding kept
  brings_kept type zero parts r none rest = (
    rest.types,
    λ i l. rest.on i l ∙ sym (on_cons (record { patches = type; weight = 0 }) parts (place i) ∙ ap (λ k. k + weight_on parts (place i)) (either (uses type (place i))) ∙ omega arith),
    rest.of ∙ sym (of_cons (record { patches = type; weight = 0 }) parts ∙ omega arith),
  )
    where
      either : (b : Bool) → ◌≡◌ {A = ℕ} (if b then 0 else 0) 0
      either true = refl
      either false = refl
  brings_kept type (suc w) parts r none rest = (
    types,
    λ i l.
        on_cons (record { patches = map (find n) type; weight = suc w }) (brought parts) i
        ∙ (λ z. (if uses_brought type i all l z then suc w else 0) + rest.on i l z)
        ∙ sym (on_cons (record { patches = type; weight = suc w }) parts (place i)),
    of_cons (record { patches = map (find n) type; weight = suc w }) (brought parts) ∙ ap (λ k. suc w + k) rest.of ∙ sym (of_cons (record { patches = type; weight = suc w }) parts),
  )
    where
      all : AllFound type
      all = found_of type w parts r none

      types : AllRational (record { patches = map (find n) type; weight = suc w } ∷ brought parts)
      types x (zero, l, e) = subst (λ (y : Share). IsRationalType p y.patches) e (brought_rational type all r)
      types x (suc k, l, e) = rest.types x (k, omega (arith, l), e)

  brings : (parts : List Share) → AllThere parts → NoneOnEmpty parts → Brings parts
  unfolding brought
  brings [] all none = record { types = λ x h. absurd (omega (arith, h.1)); on = λ i l. refl; of = refl }
  brings (part ∷ parts) all none =
      let rest = brings parts (tail_there part parts all) (tail_empty part parts none) in
      let more = brings_kept part.patches part.weight parts (all part (0, omega arith, refl)) none rest in
      record { types = more.0; on = more.1; of = more.2 }

  -- ---- mixtures

  partial_there : (d : ℕ) (parts : List Share) → IsPartialMixture p d parts → IsPartialMixture q d (moved parts)
  partial_there d parts h = record {
    fraction = h.fraction;
    kinds = moved_there parts h.kinds;
    within = λ k l. elim (image n k) [
      | inl i ↦ subst (λ k. weight_on (moved parts) k ≤ d * units_at q k) i.2
          (let same = moved_on parts i.0 h.kinds i.1 in let units = ap (λ u. d * u) (units_same i.0 i.1) in omega (arith, same, units, h.within i.0 i.1))
      | inr none ↦ omega (arith, moved_outside parts k h.kinds none)
    ];
  }

  mixture_there : (d : ℕ) (parts : List Share) → IsMixture p d parts → IsMixture q d (moved parts)
  mixture_there d parts h = record {
    fraction = h.fraction;
    kinds = moved_there parts h.kinds;
    exact = λ k l. elim (image n k) [
      | inl i ↦ subst (λ k. weight_on (moved parts) k ≡ d * units_at q k) i.2 (moved_on parts i.0 h.kinds i.1 ∙ h.exact i.0 i.1 ∙ sym (ap (λ u. d * u) (units_same i.0 i.1)))
      | inr none ↦ elim (adds.others k l) [
        | inl i ↦ absurd (none i.0 i.1 i.2)
        | inr e ↦ (let units = ap (λ u. d * u) e in omega (arith, moved_outside parts k h.kinds none, units))
      ]
    ];
  }

  partial_back : (d : ℕ) (parts : List Share) → IsPartialMixture q d parts → IsPartialMixture p d (brought parts) × (weight_of (brought parts) ≡ weight_of parts)
  partial_back d parts h = (
    record {
      fraction = h.fraction;
      kinds = b.types;
      within = λ i l. let units = ap (λ u. d * u) (units_same i l) in omega (arith, b.on i l, h.within (place i) (adds.goes_to i l), units);
    },
    b.of,
  )
    where
      b : Brings parts
      b = brings parts h.kinds (λ k l e. let units = ap (λ u. d * u) e in omega (arith, h.within k l, units))

  mixture_back : (d : ℕ) (parts : List Share) → IsMixture q d parts → IsMixture p d (brought parts)
  mixture_back d parts h = record {
    fraction = h.fraction;
    kinds = b.types;
    exact = λ i l. b.on i l ∙ h.exact (place i) (adds.goes_to i l) ∙ ap (λ u. d * u) (units_same i l);
  }
    where
      b : Brings parts
      b = brings parts h.kinds (λ k l e. let units = ap (λ u. d * u) e in omega (arith, h.exact k l, units))

  pub same_mixtures : HasMixture p ↔ HasMixture q
  same_mixtures = (λ h. (h.0, moved h.1, mixture_there h.0 h.1 h.2), λ h. (h.0, brought h.1, mixture_back h.0 h.1 h.2))

  pub same_shares : (num den : ℕ) → IsGreatestShare p num den ↔ IsGreatestShare q num den
  same_shares num den = (
    λ h. record {
      fraction = h.fraction;
      reached = (
        h.reached.0,
        moved h.reached.1,
        partial_there h.reached.0 h.reached.1 h.reached.2,
        ap (λ w. w * den) (moved_of h.reached.1) ∙ h.reached.3 ∙ ap (λ t. num * (h.reached.0 * t)) (sym adds.total),
      );
      no_greater = λ d parts partial.
          let b = partial_back d parts partial in
          let most = h.no_greater d (brought parts) b.0 in
          let same = ap (λ w. w * den) b.1 in
          let total = ap (λ t. num * (d * t)) adds.total in
          omega (arith, most, same, total);
    },
    λ h.
        let b = partial_back h.reached.0 h.reached.1 h.reached.2 in record {
          fraction = h.fraction;
          reached = (
            h.reached.0,
            brought h.reached.1,
            b.0,
            ap (λ w. w * den) b.1 ∙ h.reached.3 ∙ ap (λ t. num * (h.reached.0 * t)) adds.total,
          );
          no_greater = λ d parts partial.
              let most = h.no_greater d (moved parts) (partial_there d parts partial) in
              let same = ap (λ w. w * den) (moved_of parts) in
              let total = ap (λ t. num * (d * t)) adds.total in
              omega (arith, most, same, total);
        },
  )
