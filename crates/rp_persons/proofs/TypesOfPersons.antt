-- The type of a person: the patches that are used. A person's bundles are those of a type exactly where they have the
-- signs of its patches; then the type is rational where the bundles meet the axiom, and the person uses just its patches.
use Rattle.std.proofs.Common.{◌≡◌, ◌≢◌, ℕ, ◌*◌, ◌<◌, ◌↔◌, inl, inr, Bool, true, false, List, get_or, length, slice_index, ap, refl, sym, subst, ◌∙◌, arith}
use Rattle.std.proofs.lemmas.Bool.{cases_eq, cases_order, false≢true}
use Rattle.std.specs.Cmp.Rules.{signed_items}
use Rattle.std.specs.Ordering.{nat_cmp}
use Rattle.std.specs.Prelude.{ℤ, pos, ◌≤ℤ◌, ◌<ℤ◌, IsTrue}
use Rattle.rp_table.specs.Spending.{spending}
use Rattle.rp_evidence.specs.Demand.{FractionBundle}
use Rattle.rp_evidence.specs.Garp.{HasNoViolation}
use Rattle.rp_evidence.proofs.SameCosts.{no_violation_same}
use Rattle.rp_people.specs.Choices.{Choices, IsStrictChoice, IsWeakChoice, MeetAxiom}
use Rattle.rp_patch.specs.Choices.{RandomInput}
use Rattle.rp_patch.specs.FirstChoices.{AreNumberedByFirstChoice, IsFirstIn, IsFirstInPatch}
use Rattle.rp_patch.specs.Kinds.{uses}
use Rattle.rp_patch.specs.Patches.{PatchList, budget_at, patch_at, sign_at}
use Rattle.rp_patch.specs.Signs.{sign_of}
use Rattle.rp_patch.specs.Types.{IsRationalType, IsStrictBy, IsType, IsWeakBy}
use Rattle.rp_patch.proofs.KindWeights.{uses_none, uses_some}
use Rattle.rp_persons.specs.Persons.{Person, signs_of_bundle, uses_patch}
use Rattle.rp_persons.proofs.SignFacts.{sign_there, strict_sign, weak_sign}

-- One bundle from each budget, held to its income.
abbrev pub choices_by : RandomInput → (ℕ → FractionBundle) → Choices
choices_by input bundle = record {
  n = input.budgets;
  goods = input.goods;
  price = input.price;
  bundle = bundle;
  scale = 1;
  own = input.income;
}

-- The type has a patch of every budget, with the signs of the bundle there.
pub record IsTypeOf (input : RandomInput) (p : PatchList) (bundle : ℕ → FractionBundle) (type : List ℕ) : Type 0 where
  pub type_is : IsType p type
  pub alike : (j : ℕ) → j < input.budgets → signs_of_bundle input (bundle j) ≡ (patch_at p (slice_index type j)).signs

-- two tests that answer the same
same_answer : (a b : Bool) → (IsTrue a → IsTrue b) → (IsTrue b → IsTrue a) → a ≡ b
same_answer true true there back = refl
same_answer false false there back = refl
same_answer true false there back = absurd (false≢true (there refl))
same_answer false true there back = absurd (false≢true (back refl))

-- patches of one budget with the same signs are one
pub only_one : (input : RandomInput) (p : PatchList) → AreNumberedByFirstChoice input p → (h i : ℕ) → h < length p.patches → i < length p.patches
    → budget_at p h ≡ budget_at p i → (patch_at p h).signs ≡ (patch_at p i).signs → h ≡ i
only_one input p numbered h i lh li budget signs = elim (cases_order h i) [
  | inl same ↦ same
  | inr other ↦ elim other [
    | inl less ↦ absurd (clash h i less li budget signs)
    | inr more ↦ absurd (clash i h more lh (sym budget) (sym signs))
  ]
]
  where
    clash : (a b : ℕ) → a < b → b < length p.patches → budget_at p a ≡ budget_at p b → (patch_at p a).signs ≡ (patch_at p b).signs → ⊥
    clash a b less inside same_budget same_signs =
        let first = numbered.each b inside in
        let back : IsFirstInPatch input p a first.0 =
        subst (λ (j : ℕ). IsFirstIn input j (patch_at p a).signs first.0) (sym same_budget)
        (subst (λ (signs : List ℤ). IsFirstIn input (budget_at p b) signs first.0) (sym same_signs) first.1) in
        elim (numbered.in_order a b first.0 first.0 less inside back first.1) [
          | inl l ↦ omega arith
          | inr r ↦ let l = r.1 in omega arith
        ]

module _ (input : RandomInput) (p : PatchList) (budgets : p.budgets ≡ input.budgets) (bundle : ℕ → FractionBundle) (type : List ℕ) (is : IsTypeOf input p bundle type) where
  -- what the sign of a patch of the type says of the bundle there
  sign_is : (k j : ℕ) → k < input.budgets → j < input.budgets
      → sign_at p (slice_index type j) k ≡ sign_of (nat_cmp (spending input.goods (input.price k) (bundle j).num) (input.income k * (bundle j).den))
  sign_is k j lk lj = ap (λ (signs : List ℤ). get_or signs k (pos 0)) (sym (is.alike j lj)) ∙ sign_there input (bundle j) k lk

  weak_is : (k j : ℕ) → k < input.budgets → j < input.budgets → IsWeakBy p type k j ↔ IsWeakChoice (choices_by input bundle) k j
  weak_is k j lk lj =
      let s = spending input.goods (input.price k) (bundle j).num in
      let t = input.income k * (bundle j).den in
      let w = weak_sign s t in (
        λ h. let l = w.0 (subst (λ (z : ℤ). z ≤ℤ pos 0) (sign_is k j lk lj) h) in omega arith,
        λ h. subst (λ (z : ℤ). z ≤ℤ pos 0) (sym (sign_is k j lk lj)) (w.1 (omega arith)),
      )

  strict_is : (k j : ℕ) → k < input.budgets → j < input.budgets → IsStrictBy p type k j ↔ IsStrictChoice (choices_by input bundle) k j
  strict_is k j lk lj =
      let s = spending input.goods (input.price k) (bundle j).num in
      let t = input.income k * (bundle j).den in
      let w = strict_sign s t in (
        λ h. let l = w.0 (subst (λ (z : ℤ). z <ℤ pos 0) (sign_is k j lk lj) h) in omega arith,
        λ h. subst (λ (z : ℤ). z <ℤ pos 0) (sym (sign_is k j lk lj)) (w.1 (omega arith)),
      )

  pub axiom_of_rational : IsRationalType p type → MeetAxiom (choices_by input bundle)
  axiom_of_rational rational =
      no_violation_same input.budgets (IsWeakBy p type) (IsStrictBy p type) (IsWeakChoice (choices_by input bundle)) (IsStrictChoice (choices_by input bundle))
      weak_is strict_is (subst (λ (n : ℕ). HasNoViolation n (IsWeakBy p type) (IsStrictBy p type)) budgets rational.1)

  pub rational_of_axiom : MeetAxiom (choices_by input bundle) → IsRationalType p type
  rational_of_axiom meets = (
    is.type_is,
    subst (λ (n : ℕ). HasNoViolation n (IsWeakBy p type) (IsStrictBy p type)) (sym budgets)
        (no_violation_same input.budgets (IsWeakChoice (choices_by input bundle)) (IsStrictChoice (choices_by input bundle)) (IsWeakBy p type) (IsStrictBy p type)
        (λ s t a b. let w = weak_is s t a b in (w.1, w.0)) (λ s t a b. let w = strict_is s t a b in (w.1, w.0)) meets),
  )

  -- the person uses the patches of the type, and no others
  module _ (numbered : AreNumberedByFirstChoice input p) (on_budgets : (i : ℕ) → i < length p.patches → budget_at p i < p.budgets) {Names : Type 0} (person : Person Names) (its : person.bundle ≡ bundle) where
    signs_on : (j : ℕ) → j < input.budgets → signs_of_bundle input (person.bundle j) ≡ (patch_at p (slice_index type j)).signs
    signs_on j l = ap (λ (b : ℕ → FractionBundle). signs_of_bundle input (b j)) its ∙ is.alike j l

    of_type : (i : ℕ) → i < length p.patches → IsTrue (uses_patch input p person i) → slice_index type (budget_at p i) ≡ i
    of_type i l e =
        let j = budget_at p i in
        let below = on_budgets i l in
        let within : j < input.budgets = omega (arith, below, budgets) in
        only_one input p numbered (slice_index type j) i (is.type_is.patch j below) l (is.type_is.on_its_budget j below)
        (sym (signs_on j within) ∙ (signed_items (signs_of_bundle input (person.bundle j)) (patch_at p i).signs).0 e)

    used : (i : ℕ) → i < length p.patches → slice_index type (budget_at p i) ≡ i → IsTrue (uses_patch input p person i)
    used i l e =
        let j = budget_at p i in
        let below = on_budgets i l in
        let within : j < input.budgets = omega (arith, below, budgets) in
        (signed_items (signs_of_bundle input (person.bundle j)) (patch_at p i).signs).1
        (signs_on j within ∙ ap (λ (h : ℕ). (patch_at p h).signs) e)

    in_type : (i : ℕ) → i < length p.patches → slice_index type (budget_at p i) ≡ i → IsTrue (uses type i)
    in_type i l e =
        let below = on_budgets i l in
        subst (λ (h : ℕ). IsTrue (uses type h)) e (uses_some type (budget_at p i) (omega (arith, below, is.type_is.one_each)))

    back_in : (i : ℕ) → i < length p.patches → IsTrue (uses type i) → slice_index type (budget_at p i) ≡ i
    back_in i l e = elim (cases_eq (slice_index type (budget_at p i)) i) [
      | inl same ↦ same
      | inr other ↦ absurd (false≢true (sym (uses_none type i (none other)) ∙ e))
    ]
      where
        none : slice_index type (budget_at p i) ≢ i → (j : ℕ) → j < length type → slice_index type j ≢ i
        none other j inside same =
            let j_in : j < p.budgets = omega (arith, inside, is.type_is.one_each) in
            let at : budget_at p i ≡ j = subst (λ (h : ℕ). budget_at p h ≡ j) same (is.type_is.on_its_budget j j_in) in
            other (subst (λ (b : ℕ). slice_index type b ≡ i) (sym at) same)

    pub uses_its_type : (i : ℕ) → i < length p.patches → uses_patch input p person i ≡ uses type i
    uses_its_type i l = same_answer (uses_patch input p person i) (uses type i)
        (λ e. in_type i l (of_type i l e)) (λ e. used i l (back_in i l e))
