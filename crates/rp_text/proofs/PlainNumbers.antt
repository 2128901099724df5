-- Texts of the plain form: no blanks stand round them, and its numerals are decimals without places.
use Rattle.std.proofs.Common.{◌≡◌, ℕ, ◌+◌, ◌-◌, ◌*◌, ◌^◌, ◌≤◌, true, false, ◌==◌, nat_lt, List, [], ◌∷◌, length, get_or, take, drop, min, Ok, refl, sym, ap, ◌∙◌, arith}
use Rattle.std.specs.Prelude.{fold}
use Rattle.std.specs.Char.{is_ascii_digit, digit_value}
use Rattle.std.specs.List.{All, list_all, position_or_len}
use Rattle.std.specs.Str.Parse.{digits_value, digits_value_after}
use Rattle.std.proofs.lemmas.Bool.Decides.{nat_tests}
use Rattle.std.proofs.lemmas.List.{take_all, append-nil, take_rest}
use Rattle.std.proofs.lemmas.List.Elements.{All-tail}
use Rattle.std.proofs.lemmas.List.Sums.{list_all-from_AllPass, position_or_len_is}
use Rattle.std.proofs.Math.ListN.{drop_of_length-le}
use Rattle.rp_num.specs.Decimal.{whole_part, after_point, is_number, written_places, decimal_of}
use Rattle.rp_forms.specs.Texts.{is_blank, after_blanks, before_blanks, trimmed}
use Rattle.rp_text.specs.Plain.{IsNumeral}
use Rattle.rp_forms.proofs.TextLemmas.{blanks_before, blanks_after}

no_blank : (byte : ℕ) → 33 ≤ byte → is_blank byte ≡ false
no_blank byte some = grind (arith, nat_tests)

-- a text without blanks is its own trimmed text
pub trimmed_is : (text : List ℕ) → All (λ byte. 33 ≤ byte) text → trimmed text ≡ text
trimmed_is text marks =
    let from_start : take (length text - 0) (drop 0 text) ≡ after_blanks text =
    blanks_before text 0 (omega arith) (λ k none. absurd (omega arith)) (λ some. no_blank (get_or text 0 0) (marks 0 0 some)) in
    let front : after_blanks text ≡ text = sym from_start ∙ take_rest text 0 in
    let to_end : take (length text) text ≡ before_blanks text =
    blanks_after text (length text) (omega arith) (λ k from below. absurd (omega arith)) (λ some. no_blank (get_or text (length text - 1) 0) (marks (length text - 1) 0 (omega arith))) in
    ap before_blanks front ∙ sym to_end ∙ take_all (length text) text (omega arith)

abbrev Digits : List ℕ → Type 0
Digits text = All (λ byte. (48 ≤ byte) × (byte ≤ 57)) text

digit : (byte : ℕ) → 48 ≤ byte → byte ≤ 57 → (is_ascii_digit byte ≡ true) × (digit_value byte ≡ byte - 48) × ((byte == 46) ≡ false)
digit byte least most = (grind (arith, nat_tests), grind (arith, nat_tests), grind (arith, nat_tests))

value_after : (digits : List ℕ) (n : ℕ) → Digits digits → digits_value_after 10 n digits ≡ fold (λ m byte. 10 * m + (byte - 48)) n digits
value_after [] n all = refl
value_after (d ∷ ds) n all =
    let here = all 0 0 (omega arith) in
    let value = (digit d here.0 here.1).1 in
    let step : n * 10 + digit_value d ≡ 10 * n + (d - 48) = omega (arith, value) in
    ap (λ m. digits_value_after 10 m ds) step ∙ value_after ds (10 * n + (d - 48)) (All-tail (λ byte. (48 ≤ byte) × (byte ≤ 57)) d ds all)

not_over : (n : ℕ) → nat_lt n n ≡ false
not_over n = grind (arith, nat_tests)

some_length : (n : ℕ) → 1 ≤ n → nat_lt 0 n ≡ true
some_length n some = grind (arith, nat_tests)

-- digits are a number without places
decimal_digits : (digits : List ℕ) → 1 ≤ length digits → Digits digits → decimal_of digits ≡ Ok (record { units = min (digits_value 10 digits) (10 ^ 18); places = 0 })
decimal_digits digits some all =
    let no_point : position_or_len (λ byte. byte == 46) digits ≡ length digits =
    position_or_len_is (λ byte. byte == 46) digits (length digits) 0 (omega arith) (λ k below. (digit (get_or digits k 0) (all k 0 below).0 (all k 0 below).1).2) (λ more. absurd (omega arith)) in
    let front : whole_part digits ≡ digits = ap (λ n. take n digits) no_point ∙ take_all (length digits) digits (omega arith) in
    let rest : after_point digits ≡ [] = drop_of_length-le digits (omega (arith, no_point)) in
    let each : list_all is_ascii_digit digits ≡ true = list_all-from_AllPass is_ascii_digit digits (λ k d below. (digit (get_or digits k d) (all k d below).0 (all k d below).1).0) in
    let long = some_length (length digits) some in
    let none = not_over (length digits) in
    let number : is_number digits ≡ true = rw (front, none, long, each) refl in
    let places : written_places digits ≡ [] = rw rest refl in
    rw (number, places, front, append-nil digits) refl

-- a numeral denotes its number
pub numeral_decimal : (digits : List ℕ) (number : ℕ) → IsNumeral digits number → number ≤ 9999999 → decimal_of digits ≡ Ok (record { units = number; places = 0 })
numeral_decimal digits number is few =
    let value : digits_value 10 digits ≡ number = value_after digits 0 is.decimal ∙ is.is in
    let least : min number (10 ^ 18) ≡ number = omega arith in
    rw (decimal_digits digits is.some is.decimal, value, least) refl

-- no blanks stand in a numeral
pub numeral_trimmed : (digits : List ℕ) (number : ℕ) → IsNumeral digits number → trimmed digits ≡ digits
numeral_trimmed digits number is =
    trimmed_is digits (λ k d below.
    let here = is.decimal k d below in
    omega (arith, here.0))
