-- A menu as a text: its number, and that it has the letter that was chosen from it.
use Rattle.std.proofs.Common.{◌≡◌, ◌≢◌, ℕ, zero, suc, ◌+◌, ◌-◌, ◌<◌, ◌≤◌, ◌^◌, ◌==◌, ◌&&◌, ◌||◌, Bool, true, false, not, nat_le, nat_lt, List, [], ◌∷◌, length, slice_index, refl, sym, ap, subst, ◌∙◌, arith}
use Rattle.std.specs.Int.{bit_at}
use Rattle.std.proofs.lemmas.Bool.Decides.{nat_tests}
use Rattle.std.proofs.lemmas.List.Folds.{list_any_at}
use Rattle.std.proofs.lemmas.Nat.Bits.{bit_at-zero}
use Rattle.std.proofs.lemmas.Bool.{and_parts}
use Rattle.rp_num.specs.Below.{any_below}
use Rattle.rp_num.proofs.BelowLemmas.{one_holds}
use Rattle.rp_menu.specs.MenuLists.{has_letter}
use Rattle.rp_menu.specs.MenuTexts.{has_byte, is_choice, is_letter, is_menu, is_wrong_at, letter_in, number_of_menu}
use Rattle.rp_menu.proofs.MenuLetters.{number_has, number_small}

menu_tests : (a b : Bool) → (a && not b) ≡ true → (a ≡ true) × (b ≡ false)
menu_tests true true e = cc e
menu_tests true false e = (refl, refl)
menu_tests false b e = cc e

right_letter : (a b : Bool) → (not a || b) ≡ false → a ≡ true
right_letter true b e = refl
right_letter false b e = cc e

one_of : (a : Bool) → a ≢ true → a ≡ false
one_of true e = absurd (e refl)
one_of false e = refl

in_range : (byte : ℕ) → is_letter byte ≡ true → (97 ≤ byte) × (byte < 103)
in_range byte is =
    let tests = and_parts (nat_le 97 byte) (nat_lt byte 103) is in
    let low = tests.0 in
    let high = tests.1 in
    (grind (arith, nat_tests), grind (arith, nat_tests))

-- where a byte of a text stands
stands_at : (text : List ℕ) (byte : ℕ) → has_byte text byte ≡ true → (k : ℕ) × (k < length text) × (slice_index text k ≡ byte)
stands_at [] byte is = cc is
stands_at (b ∷ text) byte is = by (b == byte) refl (stands_at text byte) is
  where
    by : (test : Bool) → (b == byte) ≡ test → (has_byte text byte ≡ true → (k : ℕ) × (k < length text) × (slice_index text k ≡ byte))
        → (test || has_byte text byte) ≡ true → (k : ℕ) × (k < suc (length text)) × (slice_index (b ∷ text) k ≡ byte)
    by true here rest some = (0, omega arith, grind (arith, nat_tests))
    by false here rest some =
        let later = rest some in
        (suc later.0, omega (arith, later.1), later.2)

positive : (n x : ℕ) → bit_at n x ≡ 1 → 1 ≤ n
positive zero x is = cc (sym (bit_at-zero x) ∙ is)
positive (suc n) x is = omega arith

module _ (text : List ℕ) (is : is_menu text ≡ true) where
  parts : (nat_lt 0 (length text) ≡ true) × (any_below (length text) (is_wrong_at text) ≡ false)
  parts = menu_tests (nat_lt 0 (length text)) (any_below (length text) (is_wrong_at text)) is

  some_bytes : 0 < length text
  some_bytes = let some = parts.0 in grind (arith, nat_tests)

  letter_at : (k : ℕ) → k < length text → is_letter (slice_index text k) ≡ true
  letter_at k inside =
      right_letter (is_letter (slice_index text k)) (nat_lt 0 k && nat_le (slice_index text k) (slice_index text (k - 1)))
      (one_of (is_wrong_at text k) (λ wrong. cc (one_holds (is_wrong_at text) k (length text) inside wrong, parts.1)))

  letter_of : (byte : ℕ) → has_byte text byte ≡ true → bit_at (number_of_menu text) (byte - 97) ≡ 1
  letter_of byte there =
      let place = stands_at text byte there in
      let letter = subst (λ b. is_letter b ≡ true) place.2 (letter_at place.0 place.1) in
      let range = in_range byte letter in
      let same : byte ≡ 97 + (byte - 97) = omega (arith, range.0) in
      number_has (λ x. has_byte text (97 + x)) 6 (byte - 97) (omega (arith, range.1, range.0)) (subst (λ b. has_byte text b ≡ true) same there)

  pub menu_small : number_of_menu text < 2 ^ 6
  menu_small = number_small (λ x. has_byte text (97 + x)) 6

  pub menu_some : 1 ≤ number_of_menu text
  menu_some =
      let test : (slice_index text 0 == slice_index text 0) ≡ true = grind (arith, nat_tests) in
      let first = list_any_at (λ other. other == slice_index text 0) text 0 0 some_bytes test in
      positive (number_of_menu text) (slice_index text 0 - 97) (letter_of (slice_index text 0) first)

  pub menu_has : (choice : List ℕ) → is_choice text choice ≡ true → has_letter (number_of_menu text) (letter_in choice) ≡ true
  menu_has choice chosen =
      let tests = and_parts (length choice == 1) (has_byte text (slice_index choice 0)) chosen in
      ap (λ n. n == 1) (letter_of (slice_index choice 0) tests.1)
