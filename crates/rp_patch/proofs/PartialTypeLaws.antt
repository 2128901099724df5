-- A part with one patch more, and whether it has a violation.
use Rattle.std.proofs.Common.{◌≡◌, ◌<◌, ◌⊎◌, ◌↔◌, ◌+◌, ◌-◌, ◌++◌, inl, inr, ℕ, ℤ, pos, ◌≤ℤ◌, ◌<ℤ◌, List, [], ◌∷◌, length, length-append, get_or, get_or-set_same, get_or-set_other, length-set, set, slice_index, take, refl, sym, ap, subst, ◌∙◌, arith, below_more}
use Rattle.std.proofs.lemmas.Bool.{cases_eq}
use Rattle.std.proofs.lemmas.List.{get_or_append_left, get_or-append_right}
use Rattle.std.proofs.lemmas.Int.{ints}
use Rattle.rp_evidence.specs.Walk.{LeadsTo}
use Rattle.rp_evidence.proofs.Violations.{has_reach_and_strict, reach_and_strict}
use Rattle.rp_evidence.proofs.Walks.{ends_below, leads_by_weaker, reach_starts_below, reach_ends_below, rest_of_reach, starts_below}
use Rattle.rp_patch.specs.InnerJoined.{IsJoined}
use Rattle.rp_patch.specs.PartialTypes.{IsRationalBelow, IsTaken, Leads, taken_in}
use Rattle.rp_patch.specs.Patches.{PatchList, budget_at, sign_at}
use Rattle.rp_patch.specs.Sets.{Has}
use Rattle.rp_patch.specs.Types.{IsStrictBy, IsWeakBy}
use Rattle.rp_patch.specs.declared.partial_type.PartialType.{PartialType}
use Rattle.rp_patch.proofs.ExtendedWalks.{In, Out, taken_apart, through, wider}

module _ (p : PatchList) (old new : PartialType) (i from into : ℕ) (taken : IsTaken p old) (count : length (taken_in old) ≡ old.taken) (in_patches : i < length p.patches)
    (next : budget_at p i ≡ old.taken) (room : old.taken < p.budgets) (more : new.taken ≡ old.taken + 1) (longer : taken_in new ≡ taken_in old ++ i ∷ [])
    (from_is : (t : ℕ) → Has from t ↔ ((t ≡ old.taken) ⊎ ((j : ℕ) × (j < old.taken) × IsWeakBy p (taken_in old) old.taken j × Has (slice_index old.reached j) t)))
    (into_is : (k : ℕ) → Has into k ↔ ((k < old.taken) × (sign_at p i k ≤ℤ pos 0)))
    (rows : (k t : ℕ) → k < old.taken → Has (slice_index new.reached k) t
    ↔ (Has (slice_index old.reached k) t ⊎ (((m : ℕ) × Has (slice_index old.reached k) m × Has into m) × Has from t)))
    (last : slice_index new.reached old.taken ≡ from) where
  abbrev d : ℕ
  d = old.taken

  at_old : (j : ℕ) → j < d → slice_index (taken_in new) j ≡ slice_index (taken_in old) j
  at_old j below = ap (λ xs. slice_index xs j) longer ∙ get_or_append_left (taken_in old) (i ∷ []) 0 j (omega (arith, below, count))

  at_new : slice_index (taken_in new) d ≡ i
  at_new = ap (λ xs. slice_index xs d) longer ∙ get_or-append_right (taken_in old) (i ∷ []) d d 0 count (omega arith) ∙ (let none : d - d ≡ 0 = omega arith in ap (λ k. get_or (i ∷ []) k 0) none)

  abbrev weak : ℕ → ℕ → Type 0
  weak = IsWeakBy p (taken_in new)

  up : (k t : ℕ) → Leads p (taken_in old) d k t → (walk : List ℕ) × LeadsTo d weak k t walk
  up k t h = (h.0, leads_by_weaker d (IsWeakBy p (taken_in old)) weak (λ s x s_in x_in w. subst (λ y. sign_at p y s ≤ℤ pos 0) (sym (at_old x x_in)) w) k t h.0 h.1)

  down : (k t : ℕ) → (walk : List ℕ) × LeadsTo d weak k t walk → Leads p (taken_in old) d k t
  down k t h = (h.0, leads_by_weaker d weak (IsWeakBy p (taken_in old)) (λ s x s_in x_in w. subst (λ y. sign_at p y s ≤ℤ pos 0) (at_old x x_in) w) k t h.0 h.1)

  to_out : (t : ℕ) → Has from t → Out weak d t
  to_out t h = elim ((from_is t).0 h) [
    | inl e ↦ inl e
    | inr x ↦ inr (x.0, x.1, subst (λ y. sign_at p y d ≤ℤ pos 0) (sym (at_old x.0 x.1)) x.2, up x.0 t ((taken.reached x.0 t x.1).0 x.3))
  ]

  of_out : (t : ℕ) → Out weak d t → Has from t
  of_out t h = (from_is t).1 (elim h [
    | inl e ↦ inl e
    | inr x ↦ inr (x.0, x.1, subst (λ y. sign_at p y d ≤ℤ pos 0) (at_old x.0 x.1) x.2, (taken.reached x.0 t x.1).1 (down x.0 t x.3))
  ])

  to_in : (k m : ℕ) → k < d → Has (slice_index old.reached k) m → Has into m → In weak d k
  to_in k m below h g = inr (m, up k m ((taken.reached k m below).0 h), subst (λ y. sign_at p y m ≤ℤ pos 0) (sym at_new) ((into_is m).0 g).1)

  of_in : (k : ℕ) → k < d → In weak d k → (m : ℕ) × Has (slice_index old.reached k) m × Has into m
  of_in k below (inl e) = absurd (omega (arith, e, below))
  of_in k below (inr x) = (
    x.0,
    (taken.reached k x.0 below).1 (down k x.0 x.1),
    (into_is x.0).1 (ends_below d weak k x.0 x.1.0 x.1.1, subst (λ y. sign_at p y x.0 ≤ℤ pos 0) at_new x.2),
  )

  first_rows : (k t : ℕ) → k < d → Has (slice_index new.reached k) t ↔ ((walk : List ℕ) × LeadsTo (d + 1) weak k t walk)
  first_rows k t below = (
    λ h. elim ((rows k t below).0 h) [
      | inl g ↦ (let r = up k t ((taken.reached k t below).0 g) in (r.0, wider weak d k t r.0 r.1))
      | inr g ↦ through weak d k t (to_in k g.0.0 below g.0.1 g.0.2) (to_out t g.1)
    ],
    λ h. (rows k t below).1 (elim (taken_apart weak d k t h.0 h.1) [
      | inl r ↦ inl ((taken.reached k t below).1 (down k t r))
      | inr q ↦ inr (of_in k below q.0, of_out t q.1)
    ]),
  )

  last_row : (t : ℕ) → Has (slice_index new.reached d) t ↔ ((walk : List ℕ) × LeadsTo (d + 1) weak d t walk)
  last_row t = (
    λ h. through weak d d t (inl refl) (to_out t (subst (λ r. Has r t) last h)),
    λ h. subst (λ r. Has r t) (sym last) (elim (taken_apart weak d d t h.0 h.1) [
      | inl r ↦ absurd (let no = starts_below d weak d t r.0 r.1 in omega (arith, no))
      | inr q ↦ of_out t q.1
    ]),
  )

  pub taken_more : IsTaken p new
  taken_more = record {
    few = omega (arith, more, room);
    count = omega (arith, ap length longer, length-append (taken_in old) (i ∷ []), count, more);
    patch = λ j below. below_more (λ j. slice_index (taken_in new) j < length p.patches) d
        (λ j l. rw (at_old j l) (taken.patch j l)) (rw at_new in_patches) j (omega (arith, below, more));
    on_its_budget = λ j below. below_more (λ j. budget_at p (slice_index (taken_in new) j) ≡ j) d
        (λ j l. ap (budget_at p) (at_old j l) ∙ taken.on_its_budget j l) (ap (budget_at p) at_new ∙ next) j (omega (arith, below, more));
    reached = λ k t below. subst (λ n. Has (slice_index new.reached k) t ↔ Leads p (taken_in new) n k t) (sym more)
        (below_more (λ k. Has (slice_index new.reached k) t ↔ ((walk : List ℕ) × LeadsTo (d + 1) weak k t walk)) d (λ k l. first_rows k t l) (last_row t) k (omega (arith, below, more)));
  }

-- ---- violations

-- a walk to a budget that is strictly preferred
pub found_violation : (p : PatchList) (part : PartialType) (j k : ℕ) → IsTaken p part → length (taken_in part) ≡ part.taken → j < part.taken
    → Has (slice_index part.reached j) k → IsStrictBy p (taken_in part) k j → ¬ IsRationalBelow p (taken_in part)
found_violation p part j k taken count below h strict none =
    let n = length (taken_in part) in
    let leads = (taken.reached j k below).0 h in
    let walk : LeadsTo n (IsWeakBy p (taken_in part)) j k leads.0 = subst (λ m. LeadsTo m (IsWeakBy p (taken_in part)) j k leads.0) (sym count) leads.1 in
    none (j ∷ leads.0 ++ j ∷ []) (reach_and_strict n (IsWeakBy p (taken_in part)) (IsStrictBy p (taken_in part)) j k (j ∷ leads.0) (refl, walk) (weaker (sign_at p (slice_index (taken_in part) j) k) strict) strict)
  where
    weaker : (z : ℤ) → z <ℤ pos 0 → z ≤ℤ pos 0
    weaker z h = omega (arith, ints)

pub no_violation : (p : PatchList) (part : PartialType) → IsTaken p part → length (taken_in part) ≡ part.taken
    → ((j k : ℕ) → j < part.taken → k < part.taken → Has (slice_index part.reached j) k → ¬ IsStrictBy p (taken_in part) k j) → IsRationalBelow p (taken_in part)
no_violation p part taken count none walk v =
    let n = length (taken_in part) in
    let found = has_reach_and_strict n (IsWeakBy p (taken_in part)) (IsStrictBy p (taken_in part)) walk v in
    let s = found.0 in let t = found.1 in
    let rest = rest_of_reach n (IsWeakBy p (taken_in part)) s t found.2 in
    let s_in : s < part.taken = omega (arith, reach_starts_below n (IsWeakBy p (taken_in part)) s t found.2, count) in
    let t_in : t < part.taken = omega (arith, reach_ends_below n (IsWeakBy p (taken_in part)) s t found.2, count) in
    none s t s_in t_in ((taken.reached s t s_in).1 (rest.0 ∷ rest.1, subst (λ m. LeadsTo m (IsWeakBy p (taken_in part)) s t (rest.0 ∷ rest.1)) count rest.2)) found.3

-- ---- a row that is joined

pub joined_more : (old now new : PartialType) (into from k row : ℕ) → IsJoined old now into from k → k < length now.reached
    → new.taken ≡ now.taken → new.patches ≡ now.patches → new.reached ≡ set now.reached k row
    → ((t : ℕ) → Has row t ↔ (Has (slice_index now.reached k) t ⊎ Has from t)) → (m : ℕ) × Has (slice_index now.reached k) m × Has into m
    → IsJoined old new into from (k + 1)
joined_more old now new into from k row so_far within taken patches is row_is meets = record {
  taken = taken ∙ so_far.taken;
  patches = patches ∙ so_far.patches;
  count = ap length is ∙ length-set now.reached k row ∙ so_far.count;
  joined = λ a t below. below_more (λ a. Has (slice_index new.reached a) t ↔ (Has (slice_index old.reached a) t ⊎ (((m : ℕ) × Has (slice_index old.reached a) m × Has into m) × Has from t))) k
      (λ a l. subst (λ r. Has r t ↔ (Has (slice_index old.reached a) t ⊎ (((m : ℕ) × Has (slice_index old.reached a) m × Has into m) × Has from t)))
      (sym (ap (λ rs. slice_index rs a) is ∙ get_or-set_other now.reached k a row 0 (λ e. omega (arith, e, l)))) (so_far.joined a t l))
      (subst (λ r. Has r t ↔ (Has (slice_index old.reached k) t ⊎ (((m : ℕ) × Has (slice_index old.reached k) m × Has into m) × Has from t)))
      (sym (ap (λ rs. slice_index rs k) is ∙ get_or-set_same now.reached k row 0 within)) (here t)) a (omega (arith, below));
  later = λ a above. ap (λ rs. slice_index rs a) is ∙ get_or-set_other now.reached k a row 0 (λ e. omega (arith, e, above)) ∙ so_far.later a (omega (arith, above));
}
  where
    same : slice_index now.reached k ≡ slice_index old.reached k
    same = so_far.later k (omega arith)

    here : (t : ℕ) → Has row t ↔ (Has (slice_index old.reached k) t ⊎ (((m : ℕ) × Has (slice_index old.reached k) m × Has into m) × Has from t))
    here t = (
      λ h. elim ((row_is t).0 h) [
        | inl g ↦ inl (subst (λ r. Has r t) same g)
        | inr g ↦ inr ((meets.0, subst (λ r. Has r meets.0) same meets.1, meets.2), g)
      ],
      λ h. (row_is t).1 (elim h [
        | inl g ↦ inl (subst (λ r. Has r t) (sym same) g)
        | inr g ↦ inr g.1
      ]),
    )

pub joined_same : (old now new : PartialType) (into from k : ℕ) → IsJoined old now into from k → new ≡ now
    → (¬ ((m : ℕ) × Has (slice_index now.reached k) m × Has into m)) → IsJoined old new into from (k + 1)
joined_same old now new into from k so_far is apart = subst (λ (x : PartialType). IsJoined old x into from (k + 1)) (sym is) (record {
  taken = so_far.taken;
  patches = so_far.patches;
  count = so_far.count;
  joined = λ a t below. below_more (λ a. Has (slice_index now.reached a) t ↔ (Has (slice_index old.reached a) t ⊎ (((m : ℕ) × Has (slice_index old.reached a) m × Has into m) × Has from t))) k
      (λ a l. so_far.joined a t l) (
        λ h. inl (subst (λ r. Has r t) same h),
        λ h. elim h [
          | inl g ↦ subst (λ r. Has r t) (sym same) g
          | inr g ↦ absurd (apart (g.0.0, subst (λ r. Has r g.0.0) (sym same) g.0.1, g.0.2))
        ],
      ) a (omega (arith, below));
  later = λ a above. so_far.later a (omega (arith, above));
})
  where
    same : slice_index now.reached k ≡ slice_index old.reached k
    same = so_far.later k (omega arith)

-- ---- what the next budget leads to, as far as the budgets were looked at

module _ (p : PatchList) (part : PartialType) (from j : ℕ)
    (so_far : (t : ℕ) → Has from t ↔ ((t ≡ part.taken) ⊎ ((a : ℕ) × (a < j) × IsWeakBy p (taken_in part) part.taken a × Has (slice_index part.reached a) t))) where
  pub leads_more : (new : ℕ) → IsWeakBy p (taken_in part) part.taken j → ((t : ℕ) → Has new t ↔ (Has from t ⊎ Has (slice_index part.reached j) t))
      → (t : ℕ) → Has new t ↔ ((t ≡ part.taken) ⊎ ((a : ℕ) × (a < j + 1) × IsWeakBy p (taken_in part) part.taken a × Has (slice_index part.reached a) t))
  leads_more new weak is t = (
    λ h. elim ((is t).0 h) [
      | inl g ↦ elim ((so_far t).0 g) [ inl e ↦ inl e | inr x ↦ inr (x.0, omega (arith, x.1), x.2, x.3) ]
      | inr g ↦ inr (j, omega arith, weak, g)
    ],
    λ h. (is t).1 (elim h [
      | inl e ↦ inl ((so_far t).1 (inl e))
      | inr x ↦ elim (cases_eq x.0 j) [
        | inl e ↦ inr (subst (λ a. Has (slice_index part.reached a) t) e x.3)
        | inr d ↦ inl ((so_far t).1 (inr (x.0, omega (arith, x.1, d), x.2, x.3)))
      ]
    ]),
  )

  pub leads_same : (¬ IsWeakBy p (taken_in part) part.taken j)
      → (t : ℕ) → Has from t ↔ ((t ≡ part.taken) ⊎ ((a : ℕ) × (a < j + 1) × IsWeakBy p (taken_in part) part.taken a × Has (slice_index part.reached a) t))
  leads_same above t = (
    λ h. elim ((so_far t).0 h) [ inl e ↦ inl e | inr x ↦ inr (x.0, omega (arith, x.1), x.2, x.3) ],
    λ h. (so_far t).1 (elim h [
      | inl e ↦ inl e
      | inr x ↦ elim (cases_eq x.0 j) [
        | inl e ↦ absurd (above (subst (λ a. IsWeakBy p (taken_in part) part.taken a) e x.2))
        | inr d ↦ inr (x.0, omega (arith, x.1, d), x.2, x.3)
      ]
    ]),
  )

-- ---- no patch taken

pub nothing_taken : (p : PatchList) (part : PartialType) → part.taken ≡ 0 → IsTaken p part × IsRationalBelow p (taken_in part)
nothing_taken p part none = (
  record {
    few = omega (arith, none);
    count = ap (λ k. length (take k part.patches)) none ∙ sym none;
    patch = λ j below. absurd (omega (arith, none, below));
    on_its_budget = λ j below. absurd (omega (arith, none, below));
    reached = λ k j below. absurd (omega (arith, none, below));
  },
  λ walk v.
      let n = length (taken_in part) in
      let found = has_reach_and_strict n (IsWeakBy p (taken_in part)) (IsStrictBy p (taken_in part)) walk v in
      let below = reach_starts_below n (IsWeakBy p (taken_in part)) found.0 found.1 found.2 in
      let few = ap (λ k. length (take k part.patches)) none in
      omega (arith, below, few),
)
