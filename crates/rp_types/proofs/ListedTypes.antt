-- The list of rational types as it grows.
use Rattle.std.proofs.Common.{◌≡◌, ◌≢◌, ◌<◌, ◌≤◌, ◌⊎◌, ◌↔◌, ◌+◌, ◌++◌, inl, inr, ℕ, zero, suc, List, [], ◌∷◌, Contains, AllPairs, length, length-append, get_or, refl, sym, ap, subst, ◌∙◌, arith, rules}
use Rattle.std.specs.Cmp.Lexicographic.{slice_cmp}
use Rattle.std.specs.List.{AllByRecursion}
use Rattle.std.specs.List.Sorted.{IsStrictlySortedBy}
use Rattle.std.specs.Ordering.{nat_cmp, ordering_then}
use Rattle.std.specs.declared.cmp.Ordering.{Ordering}
use Rattle.std.specs.declared.cmp.Ordering.TheVariants.{Less, Equal}
use Rattle.std.proofs.lemmas.List.{length-map, map_push}
use Rattle.std.proofs.lemmas.List.Elements.{Contains-append_left, Contains-push, Contains-push_cases}
use Rattle.rp_patch.specs.PartialTypes.{Before, Begins}
use Rattle.rp_patch.specs.Patches.{PatchList}
use Rattle.rp_patch.specs.Types.{AreRationalTypes, HasMoreTypesThan, IsRationalType}
use Rattle.rp_patch.proofs.SearchLaws.{before_first, before_last, before_less, before_next, begins_itself, begins_whole}
use Rattle.rp_types.specs.InnerListed.{AreListed, AreListedBefore, AreListedThrough}
use Rattle.rp_types.specs.Listed.{types_of}
use Rattle.rp_types.specs.declared.types.Rational.{Rational}

abbrev order : List ℕ → List ℕ → Ordering
order = slice_cmp nat_cmp

-- ---- one more at the end

all_more : (P : List ℕ → Type 0) (xs : List (List ℕ)) (y : List ℕ) → AllByRecursion P xs → P y → AllByRecursion P (xs ++ y ∷ [])
all_more P [] y all here = (here, tt)
all_more P (x ∷ xs) y all here = (all.0, all_more P xs y all.1 here)

sorted_more : (xs : List (List ℕ)) (y : List ℕ) → IsStrictlySortedBy order xs → ((x : List ℕ) → Contains xs x → order x y ≡ Less) → IsStrictlySortedBy order (xs ++ y ∷ [])
unfolding IsStrictlySortedBy
sorted_more [] y sorted less = (tt, tt)
sorted_more (x ∷ xs) y sorted less = (
  all_more (λ z. order x z ≡ Less) xs y sorted.0 (less x (0, omega arith, refl)),
  sorted_more xs y sorted.1 (λ z h. less z (suc h.0, omega (arith, h.1), h.2)),
)

all_at : (P : List ℕ → Type 0) (xs : List (List ℕ)) → AllByRecursion P xs → (j : ℕ) (d : List ℕ) → j < length xs → P (get_or xs j d)
all_at P [] all j d below = absurd (omega (arith, below))
all_at P (x ∷ xs) all zero d below = all.0
all_at P (x ∷ xs) all (suc j) d below = all_at P xs all.1 j d (omega (arith, below))

less_at : (xs : List (List ℕ)) → IsStrictlySortedBy order xs → (i j : ℕ) (d : List ℕ) → i < j → j < length xs → order (get_or xs i d) (get_or xs j d) ≡ Less
unfolding IsStrictlySortedBy
less_at [] sorted i j d lt below = absurd (omega (arith, below))
less_at (x ∷ xs) sorted i zero d lt below = absurd (omega (arith, lt))
less_at (x ∷ xs) sorted zero (suc j) d lt below = all_at (λ z. order x z ≡ Less) xs sorted.0 j d (omega (arith, below))
less_at (x ∷ xs) sorted (suc i) (suc j) d lt below = less_at xs sorted.1 i j d (omega (arith, lt)) (omega (arith, below))

nat_same : (y : ℕ) → nat_cmp y y ≡ Equal
nat_same y = search rules

order_same : (x : List ℕ) → order x x ≡ Equal
order_same [] = refl
order_same (y ∷ x) = ap (λ o. ordering_then o (order x x)) (nat_same y) ∙ order_same x

not_equal : (o : Ordering) → o ≡ Equal → ¬ (o ≡ Less)
not_equal o e h = search (e, h, rules)

apart : (x y : List ℕ) → order x y ≡ Less → x ≢ y
apart x y less e = not_equal (order x y) (ap (λ z. order z y) e ∙ order_same y) less

all_apart : (xs : List (List ℕ)) → IsStrictlySortedBy order xs → AllPairs (λ a b. a ≢ b) xs
all_apart xs sorted = λ i j d lt below. apart (get_or xs i d) (get_or xs j d) (less_at xs sorted i j d lt below)

-- ---- the list

pub relisted : (p : PatchList) (f g : List ℕ → Type 0) (types : List Rational) → ((type : List ℕ) → IsRationalType p type → f type ↔ g type) → AreListed p f types → AreListed p g types
relisted p f g types same so_far = record {
  few = so_far.few;
  rising = so_far.rising;
  just_these = λ type. (
    λ h. let r = (so_far.just_these type).0 h in (r.0, (same type r.0).0 r.1),
    λ h. (so_far.just_these type).1 (h.0, (same type h.0).1 h.1),
  );
}

module _ (p : PatchList) (front : List ℕ) (types : List Rational) (so_far : AreListedBefore p front types) (rational : IsRationalType p front) where
  sorted : IsStrictlySortedBy order (types_of types ++ front ∷ [])
  sorted = sorted_more (types_of types) front so_far.rising (λ type h. before_less type front ((so_far.just_these type).0 h).1)

  pub one_more_listed : (new : List Rational) → length types < 4096 → new ≡ types ++ record { patches = front } ∷ [] → AreListedThrough p front new
  one_more_listed new room is = subst (λ ts. AreListedThrough p front ts) (sym is) (record {
    few = omega (arith, room, length-append types (record { patches = front } ∷ []));
    rising = subst (λ ts. IsStrictlySortedBy order ts) (sym pushed) sorted;
    just_these = λ type. (
      λ h. elim (Contains-push_cases (types_of types) front type (subst (λ ts. Contains ts type) pushed h)) [
        | inl old ↦ (let r = (so_far.just_these type).0 old in (r.0, inl r.1))
        | inr e ↦ (subst (λ t. IsRationalType p t) e rational, inr (subst (λ t. Begins t front) e (begins_itself front)))
      ],
      λ h. subst (λ ts. Contains ts type) (sym pushed) (elim h.1 [
        | inl b ↦ Contains-append_left (types_of types) (front ∷ []) type ((so_far.just_these type).1 (h.0, b))
        | inr b ↦
            let e : type ≡ front = begins_whole type front b (omega (arith, h.0.0.one_each, rational.0.one_each)) in
            subst (λ t. Contains (types_of types ++ front ∷ []) t) (sym e) (Contains-push (types_of types) front)
      ]),
    );
  })
    where
      pushed : types_of (types ++ record { patches = front } ∷ []) ≡ types_of types ++ front ∷ []
      pushed = map_push (λ (type : Rational). type.patches) types (record { patches = front })

  pub too_many : 4096 ≤ length types → HasMoreTypesThan p 4096
  too_many full = (
    types_of types ++ front ∷ [],
    all_apart (types_of types ++ front ∷ []) sorted,
    λ type h. elim (Contains-push_cases (types_of types) front type h) [
      | inl old ↦ ((so_far.just_these type).0 old).0
      | inr e ↦ subst (λ t. IsRationalType p t) e rational
    ],
    omega (arith, full, length-append (types_of types) (front ∷ []), length-map types (λ (type : Rational). type.patches)),
  )

pub first_listed : (p : PatchList) (front : List ℕ) (types : List Rational) → AreListedBefore p front types → AreListedBefore p (front ++ 0 ∷ []) types
first_listed p front types so_far =
    relisted p (λ t. Before t front) (λ t. Before t (front ++ 0 ∷ [])) types
    (λ t r. ((before_first t front).1, (before_first t front).0)) so_far

pub next_listed : (p : PatchList) (front : List ℕ) (i : ℕ) (types : List Rational) → AreListedThrough p (front ++ i ∷ []) types → AreListedBefore p (front ++ (i + 1) ∷ []) types
next_listed p front i types so_far =
    relisted p (λ t. Before t (front ++ i ∷ []) ⊎ Begins t (front ++ i ∷ [])) (λ t. Before t (front ++ (i + 1) ∷ [])) types
    (λ t r. ((before_next t front i).1, (before_next t front i).0)) so_far

pub passed_by : (p : PatchList) (front : List ℕ) (i : ℕ) (types : List Rational) → ((type : List ℕ) → IsRationalType p type → ¬ Begins type (front ++ i ∷ []))
    → AreListedBefore p (front ++ i ∷ []) types → AreListedBefore p (front ++ (i + 1) ∷ []) types
passed_by p front i types none so_far =
    relisted p (λ t. Before t (front ++ i ∷ [])) (λ t. Before t (front ++ (i + 1) ∷ [])) types
    (λ t r. (λ h. (before_next t front i).1 (inl h), λ h. elim ((before_next t front i).0 h) [ inl b ↦ b | inr b ↦ absurd (none t r b) ])) so_far

pub last_listed : (p : PatchList) (front : List ℕ) (types : List Rational) → length front < p.budgets → AreListedBefore p (front ++ length p.patches ∷ []) types → AreListedThrough p front types
last_listed p front types less so_far =
    relisted p (λ t. Before t (front ++ length p.patches ∷ [])) (λ t. Before t front ⊎ Begins t front) types
    (λ t r. before_last t front (length p.patches) (omega (arith, less, r.0.one_each)) (r.0.patch (length front) less)) so_far

-- none is before the first, and all are through with no patch given
pub none_listed : (p : PatchList) (front : List ℕ) (types : List Rational) → front ≡ [] → types ≡ [] → AreListedBefore p front types
unfolding IsStrictlySortedBy
none_listed p front types is none = subst (λ f. AreListedBefore p f types) (sym is) (subst (λ ts. AreListedBefore p [] ts) (sym none) (record {
  few = omega arith;
  rising = tt;
  just_these = λ type. (λ h. absurd (omega (arith, h.1)), λ h. absurd h.1);
}))

pub all_listed : (p : PatchList) (front : List ℕ) (types : List Rational) → front ≡ [] → AreListedThrough p front types → AreRationalTypes p (types_of types)
all_listed p front types is listed =
    let all = subst (λ f. AreListedThrough p f types) is listed in record {
      rising = all.rising;
      just_these = λ type. (λ h. ((all.just_these type).0 h).0, λ h. (all.just_these type).1 (h, inr tt));
    }
