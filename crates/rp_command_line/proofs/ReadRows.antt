-- What is read of the matches of a command, where it takes the words: a text of each argument that has to be there, and a number where
-- the parser takes numbers.
use Rattle.std.proofs.Common.{◌≡◌, ℕ, Bool, true, false, cond, List, [], ◌∷◌, Option, Some, None, refl, sym, ap, subst, ◌∙◌}
use Rattle.std.specs.List.{find}
use Rattle.std.specs.Option.{option_map_or}
use Rattle.std.specs.Str.{bytes_eq}
use Rattle.std.specs.Str.Parse.{digits_value, without_leading_plus}
use Rattle.std.proofs.lemmas.Slice.Eq.{bytes_eq-Decides}
use Rattle.clap.specs.Facts.{explicit_source, parser_of_value}
use Rattle.clap.specs.Faults.{values_fault}
use Rattle.clap.specs.Kinds.{value_kinds}
use Rattle.clap.specs.Takes.{is_given}
use Rattle.clap.specs.Values.{read_as}
use Rattle.clap.specs.ValueTests.{is_unsigned_in}
use Rattle.clap.specs.Walk.{Row, Rule, Text, arg_by_id, first_of, one_of, reading_by}
use Rattle.clap.specs.declared.builder.value_parser.ValueParser.TheVariants.{Unsigned}
use Rattle.rp_command_line.specs.CommandForms.{NumberArgument}
use Rattle.rp_command_line.specs.Words.{number_in, number_of}
use Rattle.rp_command_line.proofs.KeptRows.{AreGood, IsFilled, IsGood, all_found, first_free}
use Rattle.rp_command_line.proofs.KeptWalk.{AreTaken}

-- the one that is found passes the test
found_passes : {X : Type 0} (p : X → Bool) (x : X) (xs : List X) → find p xs ≡ Some x → p x ≡ true
found_passes p x [] is = cc
found_passes p x (y ∷ ys) is = let later = found_passes p x ys in go later (p y) refl is
  where
    go : (find p ys ≡ Some x → p x ≡ true) → (b : Bool) → p y ≡ b → cond b (Some y) (find p ys) ≡ Some x → p x ≡ true
    go later true passes is = let same : y ≡ x = cc in subst (λ z. p z ≡ true) same passes
    go later false passes is = later is

-- a text of the argument is read, and its parser takes it
pub record IsRead (a : Rule) (rows : List Row) : Type 0 where
  pub text : Text
  pub first : first_of a.id rows ≡ Some text
  pub one : one_of a.id rows ≡ Some (read_as (reading_by a) text)
  pub taken : value_kinds a.ignore_case (parser_of_value a.parser) text ≡ []

module _ (c : List Rule) (a : Rule) (own : arg_by_id c a.id ≡ Some a) where
  some_same : (other : Rule) → Some other ≡ Some a → other ≡ a
  some_same other is = cc

  -- a row of the argument gives a text
  row_read : (rows : List Row) → AreGood c rows → (r : Row) → find (λ r. bytes_eq r.id a.id) rows ≡ Some r → IsRead a rows
  row_read rows all r is = go r.values good.filled (subst (λ (b : Rule). values_fault b r.values ≡ []) rule good.taken) refl
    where
      good : IsGood c r
      good = all_found (IsGood c) (λ r. bytes_eq r.id a.id) r rows all is

      same : r.id ≡ a.id
      same = (bytes_eq-Decides r.id a.id).0 (found_passes (λ r. bytes_eq r.id a.id) r rows is)

      rule : good.rule ≡ a
      rule = some_same good.rule (sym good.found ∙ ap (arg_by_id c) same ∙ own)

      go : (values : List Text) → IsFilled values → values_fault a values ≡ [] → r.values ≡ values → IsRead a rows
      go [] filled taken are = absurd filled
      go (v ∷ vs) filled taken are = record {
        text = v;
        first = rw (is, are) refl;
        one = rw (is, are, good.read, rule) refl;
        taken = first_free (value_kinds a.ignore_case (parser_of_value a.parser) v) (values_fault a vs) taken;
      }

  -- an argument that was given
  pub given_read : (rows : List Row) → AreGood c rows → is_given a.id rows ≡ true → IsRead a rows
  given_read rows all given = go (find (λ r. bytes_eq r.id a.id) rows) refl given
    where
      go : (found : Option Row) → find (λ r. bytes_eq r.id a.id) rows ≡ found → option_map_or (λ r. explicit_source r.source) found false ≡ true → IsRead a rows
      go None is given = cc
      go (Some r) is given = row_read rows all r is

-- an argument that has to be there
pub required_read : (rules : List Rule) (rows : List Row) (a : Rule) → AreTaken rules rows → arg_by_id rules a.id ≡ Some a → a.required ≡ true → IsRead a rows
required_read rules rows a taken own required =
    given_read rules a own rows taken.good (all_found (λ b. b.required ≡ true → is_given b.id rows ≡ true) (λ b. bytes_eq b.id a.id) a rules taken.given own required)

-- a number is read where the parser takes numbers
pub number_read : (a : Rule) (number : NumberArgument) (rows : List Row) → a.id ≡ number.name → a.parser ≡ Some (Unsigned number.least number.most) → IsRead a rows → (n : ℕ) × (number_of number rows ≡ Some n)
number_read a number rows named parser read =
    (digits_value 10 (without_leading_plus read.text), rw (sym named, read.one, parser) (go (is_unsigned_in number.least number.most read.text) refl))
  where
    go : (b : Bool) → is_unsigned_in number.least number.most read.text ≡ b → number_in number read.text ≡ Some (digits_value 10 (without_leading_plus read.text))
    go true is = rw is refl
    go false is = let wrong = rw (parser, is) at read.taken in cc
