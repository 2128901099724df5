-- Bits of rows of words: two words are united, and one bit is set.
use Rattle.std.proofs.Common.{◌≡◌, ℕ, zero, suc, ◌*◌, ◌/◌, ◌%◌, ◌^◌, ◌<◌, ◌||◌, max, Bool, true, false, eqb, List, length, set, get_or, bit_or, inl, inr, refl, sym, ap, ◌∙◌, arith, mod-lt, get_or-set_same, get_or-set_other, shl_exact}
use Rattle.std.specs.Int.{bit_at}
use Rattle.std.proofs.lemmas.Bool.{cases_eq, eq-eqb, ne_eqb}
use Rattle.std.proofs.lemmas.Nat.Bits.{bit_at_or, bit_at-pow_same, bit_at-pow_other}
use Rattle.rp_evidence.specs.Bits.{bit_in}

pub or_false : (a : Bool) → (a || false) ≡ a
or_false true = refl
or_false false = refl

max_one : (a b : ℕ) → a < 2 → b < 2 → eqb (max a b) 1 ≡ (eqb a 1 || eqb b 1)
max_one zero zero _ _ = refl
max_one zero (suc zero) _ _ = refl
max_one (suc zero) zero _ _ = refl
max_one (suc zero) (suc zero) _ _ = refl
max_one (suc (suc a)) b h _ = absurd (omega arith)
max_one zero (suc (suc b)) _ h = absurd (omega arith)
max_one (suc zero) (suc (suc b)) _ h = absurd (omega arith)

bit_below : (w i : ℕ) → bit_at w i < 2
bit_below w i = mod-lt (w / 2 ^ i) (omega arith)

-- A bit of the union of two words.
pub bit_of_or : (x y i : ℕ) → eqb (bit_at (bit_or x y) i) 1 ≡ (eqb (bit_at x i) 1 || eqb (bit_at y i) 1)
bit_of_or x y i = ap (λ b. eqb b 1) (bit_at_or x y i) ∙ max_one (bit_at x i) (bit_at y i) (bit_below x i) (bit_below y i)

-- The word with this bit alone.
pub alone : (j : ℕ) → j < 64 → 1 * 2 ^ j % 18446744073709551616 ≡ 2 ^ j
alone j l = let same : 1 * 2 ^ j ≡ 2 ^ j = omega arith in shl_exact {a = 1} 1 j 64 (omega arith) (omega arith) ∙ same

module _ (words : List ℕ) (t w : ℕ) (within : t / 64 < length words) (is : w ≡ get_or words (t / 64) 0) where
  abbrev one : ℕ
  one = 1 * 2 ^ (t % 64) % 18446744073709551616

  abbrev new : ℕ
  new = bit_or w one

  one_is : one ≡ 2 ^ (t % 64)
  one_is = alone (t % 64) (mod-lt t (omega arith))

  in_word : (b : ℕ) → b / 64 ≡ t / 64 → bit_in (set words (t / 64) new) b ≡ (bit_in words b || eqb (bit_at one (b % 64)) 1)
  in_word b same =
      let i = b % 64 in
      ap (λ v. eqb (bit_at v i) 1) (ap (λ k. get_or (set words (t / 64) new) k 0) same ∙ get_or-set_same words (t / 64) new 0 within)
      ∙ bit_of_or w one i ∙ ap (λ v. eqb (bit_at v i) 1 || eqb (bit_at one i) 1) (is ∙ ap (λ k. get_or words k 0) (sym same))

  pub bit_set : (b : ℕ) → bit_in (set words (t / 64) new) b ≡ (bit_in words b || eqb b t)
  bit_set b = elim (cases_eq (b / 64) (t / 64)) [
    | inl same ↦ in_word b same ∙ ap (λ x. bit_in words b || x) (elim (cases_eq (b % 64) (t % 64)) [
      | inl e ↦
          let it : b ≡ t = omega (arith, same, e) in
          ap (λ v. eqb v 1) ((λ i. bit_at (one_is i) (e i)) ∙ bit_at-pow_same (t % 64)) ∙ sym (eq-eqb b t it)
      | inr e ↦
          let apart : b ≡ t → ⊥ = λ it. e (ap (λ x. x % 64) it) in
          ap (λ v. eqb v 1) (ap (λ v. bit_at v (b % 64)) one_is ∙ bit_at-pow_other (t % 64) (b % 64) e) ∙ sym (ne_eqb b t apart)
    ])
    | inr other ↦
        let apart : b ≡ t → ⊥ = λ it. other (ap (λ x. x / 64) it) in
        ap (λ v. eqb (bit_at v (b % 64)) 1) (get_or-set_other words (t / 64) (b / 64) new 0 other)
        ∙ sym (ap (λ x. bit_in words b || x) (ne_eqb b t apart) ∙ or_false (bit_in words b))
  ]
