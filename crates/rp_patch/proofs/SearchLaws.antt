-- What a search through the types may leave out, and the order in which it finds them.
use Rattle.std.proofs.Common.{◌≡◌, ◌≢◌, ◌<◌, ◌≤◌, ◌⊎◌, ◌↔◌, ◌+◌, ◌++◌, inl, inr, ℕ, zero, suc, pos, ◌≤ℤ◌, ◌<ℤ◌, List, [], ◌∷◌, length, length-append, get_or, slice_index, refl, sym, ap, subst, ◌∙◌, ◌-◌, arith, rules}
use Rattle.std.specs.Cmp.Lexicographic.{slice_cmp}
use Rattle.std.specs.Ordering.{nat_cmp, ordering_then}
use Rattle.std.specs.declared.cmp.Ordering.TheVariants.{Less, Equal}
use Rattle.std.proofs.lemmas.List.{get_or-append_right}
use Rattle.rp_evidence.specs.Garp.{HasNoViolation, IsViolation}
use Rattle.rp_evidence.specs.Walk.{IsWalk, LeadsTo}
use Rattle.rp_evidence.proofs.Violations.{violates_by_weaker}
use Rattle.rp_patch.specs.PartialTypes.{Before, Begins, IsPartialType, IsRationalBelow, taken_in}
use Rattle.rp_patch.specs.Patches.{PatchList, budget_at, sign_at}
use Rattle.rp_patch.specs.Types.{IsRationalType, IsStrictBy, IsWeakBy}
use Rattle.rp_patch.specs.declared.partial_type.PartialType.{PartialType}

-- ---- how a type begins

pub begins_at : (type front : List ℕ) → Begins type front → (j : ℕ) → j < length front → slice_index type j ≡ slice_index front j
begins_at type [] h j below = absurd (omega (arith, below))
begins_at [] (x ∷ front) h j below = absurd h
begins_at (y ∷ type) (x ∷ front) h zero below = h.0
begins_at (y ∷ type) (x ∷ front) h (suc j) below = begins_at type front h.1 j (omega (arith, below))

pub begins_length : (type front : List ℕ) → Begins type front → length front ≤ length type
begins_length type [] h = omega arith
begins_length [] (x ∷ front) h = absurd h
begins_length (y ∷ type) (x ∷ front) h = omega (arith, begins_length type front h.1)

pub begins_whole : (type front : List ℕ) → Begins type front → length type ≡ length front → type ≡ front
begins_whole [] [] h e = refl
begins_whole (y ∷ type) [] h e = absurd (omega (arith, e))
begins_whole [] (x ∷ front) h e = absurd h
begins_whole (y ∷ type) (x ∷ front) h e = λ i. h.0 i ∷ begins_whole type front h.1 (omega (arith, e)) i

pub begins_itself : (type : List ℕ) → Begins type type
begins_itself [] = tt
begins_itself (x ∷ type) = (refl, begins_itself type)

-- ---- what no rational type begins with

leads_wider : (n m : ℕ) (weak : ℕ → ℕ → Type 0) → n ≤ m → (s t : ℕ) (walk : List ℕ) → LeadsTo n weak s t walk → LeadsTo m weak s t walk
leads_wider n m weak le s t [] h = (omega (arith, h.0, le), h.1)
leads_wider n m weak le s t (x ∷ w) h = (omega (arith, h.0, le), h.1, leads_wider n m weak le x t w h.2)

walk_wider : (n m : ℕ) (weak : ℕ → ℕ → Type 0) → n ≤ m → (s t : ℕ) (walk : List ℕ) → IsWalk n weak s t walk → IsWalk m weak s t walk
walk_wider n m weak le s t [] h = absurd h
walk_wider n m weak le s t (x ∷ w) h = (h.0, leads_wider n m weak le x t w h.1)

violation_wider : (n m : ℕ) (weak strict : ℕ → ℕ → Type 0) → n ≤ m → (walk : List ℕ) → IsViolation n weak strict walk → IsViolation m weak strict walk
violation_wider n m weak strict le walk v = ((v.0.0, walk_wider n m weak le v.0.0 v.0.0 walk v.0.1, v.0.2), v.1)

-- a violation among some budgets stays one when budgets are added
pub rational_begun : (p : PatchList) (more front : List ℕ) → Begins more front → IsRationalBelow p more → IsRationalBelow p front
rational_begun p more front h rational walk v =
    let le : length front ≤ length more = begins_length more front h in
    let same = violates_by_weaker (length front) (IsWeakBy p front) (IsStrictBy p front) (IsWeakBy p more) (IsStrictBy p more)
    (λ s t s_in t_in w. subst (λ i. sign_at p i s ≤ℤ pos 0) (sym (begins_at more front h t t_in)) w)
    (λ s t s_in t_in w. subst (λ i. sign_at p i s <ℤ pos 0) (sym (begins_at more front h t t_in)) w) walk v in
    rational walk (violation_wider (length front) (length more) (IsWeakBy p more) (IsStrictBy p more) le walk same)

pub excluded_by_violation : (p : PatchList) (front : List ℕ) → (¬ IsRationalBelow p front) → (type : List ℕ) → IsRationalType p type → ¬ Begins type front
excluded_by_violation p front violated type rational h =
    violated (rational_begun p type front h (subst (λ n. HasNoViolation n (IsWeakBy p type) (IsStrictBy p type)) (sym rational.0.one_each) rational.1))

pub excluded_by_budget : (p : PatchList) (front : List ℕ) (i : ℕ) → budget_at p i ≢ length front → (type : List ℕ) → IsRationalType p type → ¬ Begins type (front ++ i ∷ [])
excluded_by_budget p front i other type rational h =
    let long = begins_length type (front ++ i ∷ []) h in
    let size = length-append front (i ∷ []) in
    let there : slice_index type (length front) ≡ i = begins_at type (front ++ i ∷ []) h (length front) (omega (arith, size))
    ∙ get_or-append_right front (i ∷ []) (length front) (length front) 0 refl (omega arith) ∙ (let none : length front - length front ≡ 0 = omega arith in ap (λ k. get_or (i ∷ []) k 0) none) in
    other (ap (budget_at p) (sym there) ∙ rational.0.on_its_budget (length front) (omega (arith, long, size, rational.0.one_each)))

-- a part with a patch of every budget is a rational type
pub whole_type : (p : PatchList) (part : PartialType) → IsPartialType p part → part.taken ≡ p.budgets → length (taken_in part) ≡ part.taken → IsRationalType p (taken_in part)
whole_type p part is all count = (
  record {
    one_each = count ∙ all;
    patch = λ j below. is.0.patch j (omega (arith, below, all));
    on_its_budget = λ j below. is.0.on_its_budget j (omega (arith, below, all));
  },
  subst (λ n. HasNoViolation n (IsWeakBy p (taken_in part)) (IsStrictBy p (taken_in part))) (count ∙ all) is.1,
)

-- ---- the order

pub before_first : (type front : List ℕ) → Before type (front ++ 0 ∷ []) ↔ Before type front
before_first [] [] = (λ h. h, λ h. h)
before_first (y ∷ type) [] = (λ h. elim h [ inl l ↦ absurd (omega (arith, l)) | inr e ↦ e.1 ], λ h. absurd h)
before_first [] (x ∷ front) = (λ h. h, λ h. h)
before_first (y ∷ type) (x ∷ front) =
    let rest = before_first type front in (
      λ h. elim h [ inl l ↦ inl l | inr e ↦ inr (e.0, rest.0 e.1) ],
      λ h. elim h [ inl l ↦ inl l | inr e ↦ inr (e.0, rest.1 e.1) ],
    )

less_or_same : (y i : ℕ) → y < i + 1 → (y < i) ⊎ (y ≡ i)
less_or_same zero zero l = inr refl
less_or_same zero (suc i) l = inl (omega arith)
less_or_same (suc y) zero l = absurd (omega (arith, l))
less_or_same (suc y) (suc i) l = elim (less_or_same y i (omega (arith, l))) [ inl a ↦ inl (omega (arith, a)) | inr e ↦ inr (ap suc e) ]

pub before_next : (type front : List ℕ) (i : ℕ) → Before type (front ++ (i + 1) ∷ []) ↔ (Before type (front ++ i ∷ []) ⊎ Begins type (front ++ i ∷ []))
before_next [] [] i = (λ h. absurd h, λ h. elim h [ inl l ↦ l | inr b ↦ b ])
before_next (y ∷ type) [] i = (
  λ h. elim h [
    | inl l ↦ elim (less_or_same y i l) [ inl a ↦ inl (inl a) | inr e ↦ inr (e, tt) ]
    | inr e ↦ absurd e.1
  ],
  λ h. elim h [
    | inl l ↦ elim l [ inl a ↦ inl (omega (arith, a)) | inr e ↦ absurd e.1 ]
    | inr b ↦ inl (omega (arith, b.0))
  ],
)
before_next [] (x ∷ front) i = (λ h. absurd h, λ h. elim h [ inl l ↦ l | inr b ↦ b ])
before_next (y ∷ type) (x ∷ front) i =
    let rest = before_next type front i in (
      λ h. elim h [
        | inl l ↦ inl (inl l)
        | inr e ↦ elim (rest.0 e.1) [ inl a ↦ inl (inr (e.0, a)) | inr b ↦ inr (e.0, b) ]
      ],
      λ h. elim h [
        | inl l ↦ elim l [ inl a ↦ inl a | inr e ↦ inr (e.0, rest.1 (inl e.1)) ]
        | inr b ↦ inr (b.0, rest.1 (inr b.1))
      ],
    )

pub before_last : (type front : List ℕ) (k : ℕ) → length front < length type → slice_index type (length front) < k → Before type (front ++ k ∷ []) ↔ (Before type front ⊎ Begins type front)
before_last [] [] k l within = absurd (omega (arith, l))
before_last (y ∷ type) [] k l within = (λ h. inr tt, λ h. inl within)
before_last [] (x ∷ front) k l within = absurd (omega (arith, l))
before_last (y ∷ type) (x ∷ front) k l within =
    let rest = before_last type front k (omega (arith, l)) within in (
      λ h. elim h [
        | inl a ↦ inl (inl a)
        | inr e ↦ elim (rest.0 e.1) [ inl b ↦ inl (inr (e.0, b)) | inr b ↦ inr (e.0, b) ]
      ],
      λ h. elim h [
        | inl a ↦ elim a [ inl b ↦ inl b | inr e ↦ inr (e.0, rest.1 (inl e.1)) ]
        | inr b ↦ inr (b.0, rest.1 (inr b.1))
      ],
    )

nat_less : (y x : ℕ) → y < x → nat_cmp y x ≡ Less
nat_less y x l = search (l, rules)

nat_same : (y : ℕ) → nat_cmp y y ≡ Equal
nat_same y = search rules

pub before_less : (type front : List ℕ) → Before type front → slice_cmp nat_cmp type front ≡ Less
before_less type [] h = absurd h
before_less [] (x ∷ front) h = absurd h
before_less (y ∷ type) (x ∷ front) (inl l) = ap (λ o. ordering_then o (slice_cmp nat_cmp type front)) (nat_less y x l)
before_less (y ∷ type) (x ∷ front) (inr e) =
    ap (λ o. ordering_then o (slice_cmp nat_cmp type front)) (ap (λ z. nat_cmp z x) e.0 ∙ nat_same x) ∙ before_less type front e.1
