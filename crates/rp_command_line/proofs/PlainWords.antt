-- Words that are no flags: the names of files, and numbers in decimal digits.
use Rattle.std.proofs.Common.{◌≡◌, ◌==◌, ◌<◌, ◌≤◌, ◌^◌, ℕ, Bool, true, false, not, List, [], ◌∷◌, None, length, nat_lt, refl, sym, ap, ◌∙◌, arith, lt-ltb}
use Rattle.std.proofs.lemmas.Bool.{ne_eqb}
use Rattle.std.specs.Fmt.{decimal}
use Rattle.std.specs.Str.{bytes_eq}
use Rattle.std.specs.Str.Parse.{IsNumeral, digits_value, without_leading_plus}
use Rattle.std.proofs.lemmas.Fmt.{decimal_is_IsNumeral}
use Rattle.std.proofs.lemmas.Str.Parse.{digit_from_value}
use Rattle.clap.proofs.ValueTestLemmas.{Accepts-accepts}
use Rattle.clap.specs.Lexer.{long_of, short_of}
use Rattle.clap.specs.ValueTests.{is_unsigned_in}
use Rattle.clap.specs.declared.builder.value_parser.ValueParser.TheVariants.{Unsigned}
use Rattle.rp_command_line.specs.Shapes.{is_file_name}

-- a word that is no flag
pub record IsPlainWord (word : List ℕ) : Type 0 where
  pub dashes : bytes_eq word (45 ∷ 45 ∷ []) ≡ false
  pub long : long_of word ≡ None
  pub short : short_of word ≡ None

plain_word : (b : ℕ) (rest : List ℕ) → (b == 45) ≡ false → IsPlainWord (b ∷ rest)
plain_word b rest other = record { dashes = rw other refl; long = rw other refl; short = rw other refl }

-- a word that the parser of a file's name takes
pub record IsFileWord (word : List ℕ) : Type 0 where
  pub plain : IsPlainWord word
  pub filled : nat_lt 0 (length word) ≡ true

pub file_word : (word : List ℕ) → is_file_name word ≡ true → IsFileWord word
file_word [] named = cc
file_word (b ∷ rest) named = record { plain = plain_word b rest (other (b == 45) named); filled = lt-ltb 0 (length (b ∷ rest)) (omega arith) }
  where
    other : (test : Bool) → not test ≡ true → test ≡ false
    other true is = sym is
    other false is = refl

-- a word that the parser of a number takes, and its number
pub record IsNumberWord (low high n : ℕ) (word : List ℕ) : Type 0 where
  pub plain : IsPlainWord word
  pub taken : is_unsigned_in low high word ≡ true
  pub value : digits_value 10 (without_leading_plus word) ≡ n

pub number_word : (low high n : ℕ) → n < 2 ^ 64 → low ≤ n → n ≤ high → IsNumberWord low high n (decimal n)
number_word low high n small least most = go (decimal n) (decimal_is_IsNumeral n small).0 (decimal_is_IsNumeral n small).1
  where
    go : (word : List ℕ) → IsNumeral 10 word → digits_value 10 word ≡ n → IsNumberWord low high n word
    go [] numeral is = absurd (omega arith)
    go (b ∷ rest) numeral is =
        let digit = digit_from_value b numeral.1.0 in
        let no_plus : without_leading_plus (b ∷ rest) ≡ b ∷ rest = rw (ne_eqb b 43 (λ e. omega arith)) refl in
        let value : digits_value 10 (without_leading_plus (b ∷ rest)) ≡ n = ap (digits_value 10) no_plus ∙ is in
        record {
          plain = plain_word b rest (ne_eqb b 45 (λ e. omega arith));
          taken = Accepts-accepts false (Unsigned low high) (b ∷ rest) (rw no_plus numeral, omega arith, omega arith, omega arith);
          value = value;
        }
