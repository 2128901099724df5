-- Signs of bundles to budgets: what they say of costs, and that a chosen bundle that is scaled to cost the income of its
-- budget has the signs of the choice.
use Rattle.std.proofs.Common.{◌≡◌, ℕ, ◌*◌, ◌<◌, ◌≤◌, ◌↔◌, inl, inr, map, get_or, ap, sym, subst, ◌∙◌, arith}
use Rattle.std.proofs.lemmas.Bool.{cases_order}
use Rattle.std.proofs.lemmas.Bool.Decides.{nat_tests}
use Rattle.std.proofs.lemmas.Int.{ints}
use Rattle.std.proofs.lemmas.List.FromFn.{get_or-map-range_with_len}
use Rattle.std.specs.List.{range_with_len}
use Rattle.std.specs.Ordering.{nat_cmp}
use Rattle.std.specs.declared.cmp.Ordering.TheVariants.{Less, Equal, Greater}
use Rattle.std.specs.Prelude.{ℤ, pos, negsuc, ◌≤ℤ◌, ◌<ℤ◌}
use Rattle.rp_table.specs.Spending.{spending}
use Rattle.rp_evidence.specs.Demand.{FractionBundle}
use Rattle.rp_people.proofs.Affine.{spending_multiple}
use Rattle.rp_patch.specs.Choices.{RandomInput}
use Rattle.rp_patch.specs.Signs.{cost_on, sign_of, sign_to, signs_of}
use Rattle.rp_persons.specs.Persons.{scaled_choice, sign_of_bundle, signs_of_bundle}

-- ---- the sign of an order

less_is : (a b : ℕ) → a < b → nat_cmp a b ≡ Less
less_is a b h = grind (arith, nat_tests)

equal_is : (a b : ℕ) → a ≡ b → nat_cmp a b ≡ Equal
equal_is a b h = grind (arith, nat_tests)

greater_is : (a b : ℕ) → b < a → nat_cmp a b ≡ Greater
greater_is a b h = grind (arith, nat_tests)

below_nothing : (negsuc 0 <ℤ pos 0) × (negsuc 0 ≤ℤ pos 0) × (pos 0 ≤ℤ pos 0) × (¬ (pos 0 <ℤ pos 0)) × (¬ (pos 1 ≤ℤ pos 0)) × (¬ (pos 1 <ℤ pos 0))
below_nothing = (omega (arith, ints), omega (arith, ints), omega (arith, ints), λ h. omega (arith, ints), λ h. omega (arith, ints), λ h. omega (arith, ints))

pub weak_sign : (a b : ℕ) → (sign_of (nat_cmp a b) ≤ℤ pos 0) ↔ (a ≤ b)
weak_sign a b = elim (cases_order a b) [
  | inl same ↦ let e = ap sign_of (equal_is a b same) in (λ h. omega arith, λ l. subst (λ (z : ℤ). z ≤ℤ pos 0) (sym e) below_nothing.2)
  | inr other ↦ elim other [
    | inl less ↦ let e = ap sign_of (less_is a b less) in (λ h. omega arith, λ l. subst (λ (z : ℤ). z ≤ℤ pos 0) (sym e) below_nothing.1)
    | inr more ↦ let e = ap sign_of (greater_is a b more) in (λ h. absurd (below_nothing.4 (subst (λ (z : ℤ). z ≤ℤ pos 0) e h)), λ l. absurd (omega arith))
  ]
]

pub strict_sign : (a b : ℕ) → (sign_of (nat_cmp a b) <ℤ pos 0) ↔ (a < b)
strict_sign a b = elim (cases_order a b) [
  | inl same ↦ let e = ap sign_of (equal_is a b same) in (λ h. absurd (below_nothing.3 (subst (λ (z : ℤ). z <ℤ pos 0) e h)), λ l. absurd (omega arith))
  | inr other ↦ elim other [
    | inl less ↦ let e = ap sign_of (less_is a b less) in (λ h. less, λ l. subst (λ (z : ℤ). z <ℤ pos 0) (sym e) below_nothing.0)
    | inr more ↦ let e = ap sign_of (greater_is a b more) in (λ h. absurd (below_nothing.5 (subst (λ (z : ℤ). z <ℤ pos 0) e h)), λ l. absurd (omega arith))
  ]
]

-- ---- the signs of a bundle

pub sign_there : (input : RandomInput) (x : FractionBundle) (k : ℕ) → k < input.budgets → get_or (signs_of_bundle input x) k (pos 0) ≡ sign_of_bundle input x k
sign_there input x k l = get_or-map-range_with_len (sign_of_bundle input x) 0 input.budgets k k (pos 0) l (omega arith)

module _ (input : RandomInput) (j c : ℕ) where
  pub scaled_cost : (k : ℕ) → spending input.goods (input.price k) (scaled_choice input j c).num ≡ input.income j * cost_on input k c
  scaled_cost k = spending_multiple input.goods (input.price k) (input.income j) 1 (record { den = 1; num = input.quantity c })

  pub scaled_spent : spending input.goods (input.price j) (scaled_choice input j c).num ≡ (scaled_choice input j c).den * input.income j
  scaled_spent = scaled_cost j ∙ omega arith

  pub scaled_signs : input.budget c ≡ j → signs_of_bundle input (scaled_choice input j c) ≡ signs_of input c
  scaled_signs same = λ i. map (λ k. sign_same k i) (range_with_len 0 input.budgets)
    where
      sign_same : (k : ℕ) → sign_of_bundle input (scaled_choice input j c) k ≡ sign_to input c k
      sign_same k =
          ap (λ a. sign_of (nat_cmp a (input.income k * cost_on input j c))) (scaled_cost k)
          ∙ ap (λ b. sign_of (nat_cmp (input.income b * cost_on input k c) (input.income k * cost_on input b c))) (sym same)
