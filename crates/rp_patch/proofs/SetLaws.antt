-- Laws of sets of budgets as words.
use Rattle.std.proofs.Common.{◌≡◌, ◌<◌, ◌⊎◌, ◌*◌, ◌%◌, ◌^◌, ℕ, inl, inr, sym, ap, ◌∙◌, arith, bit_and, bit_or, min, max}
use Rattle.std.specs.Int.{bit_at}
use Rattle.std.proofs.Common.{w64}
use Rattle.std.proofs.lemmas.Bool.{cases_eq}
use Rattle.std.proofs.lemmas.Nat.Bits.{bit_at_or, bit_at_and, bit_at-lt, bit_at-pow_same, bit_at-pow_other, bit_at-trailing_zeros, bit_at-zero}
use Rattle.rp_evidence.proofs.BitLemmas.{alone}
use Rattle.rp_patch.specs.Sets.{Has}

one_of_two : (a b : ℕ) → a < 2 → b < 2 → max a b ≡ 1 → (a ≡ 1) ⊎ (b ≡ 1)
one_of_two a b fa fb e = elim (cases_eq a 1) [ inl h ↦ inl h | inr h ↦ inr (omega (arith, h, fa, fb, e)) ]

-- what is in the union of two sets
pub in_union : (x y k : ℕ) → (Has (bit_or x y) k → Has x k ⊎ Has y k) × (Has x k ⊎ Has y k → Has (bit_or x y) k)
in_union x y k = (
  λ h. one_of_two (bit_at x k) (bit_at y k) (bit_at-lt x k) (bit_at-lt y k) (sym (bit_at_or x y k) ∙ h),
  λ h. bit_at_or x y k ∙ elim h [
    | inl e ↦ omega (arith, e, bit_at-lt y k)
    | inr e ↦ omega (arith, e, bit_at-lt x k)
  ],
)

-- what is in a set of one
in_one : (j k : ℕ) → j < 64 → (Has (1 * 2 ^ j % 18446744073709551616) k → k ≡ j) × (k ≡ j → Has (1 * 2 ^ j % 18446744073709551616) k)
in_one j k l = (
  λ h. elim (cases_eq k j) [
    | inl e ↦ e
    | inr d ↦ absurd (omega (arith, sym h ∙ ap (λ w. bit_at w k) (alone j l) ∙ bit_at-pow_other j k d))
  ],
  λ e. ap (λ w. bit_at w k) (alone j l) ∙ ap (λ i. bit_at (2 ^ j) i) e ∙ bit_at-pow_same j,
)

-- what is in a set with one more
pub in_more : (set j k : ℕ) → j < 64 → (Has (bit_or set (1 * 2 ^ j % 18446744073709551616)) k → Has set k ⊎ (k ≡ j)) × (Has set k ⊎ (k ≡ j) → Has (bit_or set (1 * 2 ^ j % 18446744073709551616)) k)
in_more set j k l =
    let u = in_union set (1 * 2 ^ j % 18446744073709551616) k in
    let o = in_one j k l in (
      λ h. elim (u.0 h) [ inl e ↦ inl e | inr e ↦ inr (o.0 e) ],
      λ h. u.1 (elim h [ inl e ↦ inl e | inr e ↦ inr (o.1 e) ]),
    )

both : (a b : ℕ) → a < 2 → b < 2 → min a b ≡ 1 → (a ≡ 1) × (b ≡ 1)
both a b fa fb e = (omega (arith, fa, fb, e), omega (arith, fa, fb, e))

-- a word that is not 0 has something in it
pub some_in_both : (x y : ℕ) → bit_and x y < 18446744073709551616 → ¬ (bit_and x y ≡ 0) → (k : ℕ) × Has x k × Has y k
some_in_both x y fits some =
    let first = bit_at-trailing_zeros w64 (bit_and x y) (omega (arith, some)) fits in
    let here = both _ _ (bit_at-lt x _) (bit_at-lt y _) (sym (bit_at_and x y _) ∙ first.1) in
    (_, here.0, here.1)

pub none_in_both : (x y k : ℕ) → Has x k → Has y k → ¬ (bit_and x y ≡ 0)
none_in_both x y k hx hy none =
    let is : min (bit_at x k) (bit_at y k) ≡ 0 = sym (bit_at_and x y k) ∙ ap (λ w. bit_at w k) none ∙ bit_at-zero k in
    omega (arith, is, hx, hy)
