-- What the matches of a command give, as the code reads them.
use Rattle.std.proofs.Common.{◌≡◌, ◌<◌, ◌^◌, ◌&&◌, ℕ, Bool, true, false, List, Option, Some, None, Ok, Err, [], ◌∷◌, ◌+◌, length, take, map, get_or, refl, sym, ap, subst, ◌∙◌, inl, inr, arith, if◌then◌else◌}
use Rattle.std.proofs.Math.Dec.{eqb-suc-zero}
use Rattle.std.specs.Prelude.{IfOk, Result, nat_le, nat_lt, option_and_then}
use Rattle.std.proofs.lemmas.List.{append_assoc, take_more, map-append}
use Rattle.std.specs.Str.Parse.{IsNumeral, ParsesUnsigned, digits_value, without_leading_plus}
use Rattle.clap.proofs.ValueTestLemmas.{Accepts-accepts, accepts-Accepts}
use Rattle.clap.proofs.WalkLemmas.{both}
use Rattle.clap.proofs.OnLiterals.{clap_on_literals}
use Rattle.clap.specs.Faults.{fault_of, is_simple_and_free}
use Rattle.clap.specs.Kinds.{HasKind, Kinds}
use Rattle.clap.specs.Simple.{App, HasMatchesOf, is_simple, subcommand_of, subcommand_rows_of, with_rule}
use Rattle.clap.specs.Values.{kind_of}
use Rattle.clap.specs.Walk.{Rule, Text, is_empty}
use Rattle.clap.specs.declared.error.Error.{Error}
use Rattle.clap.specs.declared.error.kind.ErrorKind.TheVariants.{OutOfMemory}
use Rattle.clap.specs.declared.parser.matches.ArgMatches.{ArgMatches}
use Rattle.clap.specs.ValueTests.{is_numeral, is_unsigned_in}
use Rattle.clap.specs.declared.builder.value_parser.ValueParser.TheVariants.{Unsigned}
use Rattle.rp_command_line.specs.CommandLine.{Line}
use Rattle.rp_command_line.specs.Commands.{program, with_rules}
use Rattle.rp_command_line.specs.CommandForms.{NumberArgument}
use Rattle.rp_command_line.specs.Words.{line_named, denoted_line, number_in}

-- a numeral that fits passes the first two tests
fits : (text : List ℕ) → IsNumeral 10 (without_leading_plus text) → digits_value 10 (without_leading_plus text) < 2 ^ 64
    → (is_numeral (without_leading_plus text) ≡ true) × (nat_lt (digits_value 10 (without_leading_plus text)) (2 ^ 64) ≡ true)
fits text numeral small =
    let n = digits_value 10 (without_leading_plus text) in
    let all = both _ _ (Accepts-accepts false (Unsigned 0 n) text (numeral, small, omega arith, omega arith)) in
    (all.0, (both _ _ all.1).0)

-- a number that was read is the one that its text writes, where it is in its range
abbrev pub between : ℕ → ℕ → ℕ → Option ℕ
between low high n = if nat_le low n && nat_le n high then Some n else None

pub number_given : (E : Type 0) (number : NumberArgument) (text : Option (List ℕ)) (v : ℕ) → (text ≡ None → Some v ≡ None) → ((t : List ℕ) → text ≡ Some t → ParsesUnsigned {E = E} 64 10 t (Ok v))
    → between number.least number.most v ≡ option_and_then (number_in number) text
number_given E number None v none given = let no : Some v ≡ None = none refl in cc
number_given E number (Some t) v none given =
    let parsed = given t refl in
    let ok = fits t parsed.0.0 parsed.0.1 in
    rw (parsed.1, ok.0, ok.1) refl

pub number_refused : (E : Type 0) (number : NumberArgument) (text : Option (List ℕ)) → ((t : List ℕ) → text ≡ Some t → (e : E) × ParsesUnsigned {E = E} 64 10 t (Err e))
    → None ≡ option_and_then (number_in number) text
number_refused E number None refused = refl
number_refused E number (Some t) refused = let failed = refused t refl in go failed.0 (is_unsigned_in number.least number.most t) refl failed.1
  where
    go : (e : E) (b : Bool) → is_unsigned_in number.least number.most t ≡ b → ParsesUnsigned {E = E} 64 10 t (Err e) → None ≡ number_in number t
    go e true in_range refused = let a = accepts-Accepts false (Unsigned number.least number.most) t in_range in absurd (refused (a.0, a.1))
    go e false out refused = rw out refl

-- a command with one more argument
pub rule_more : {A : Type 0} (rule : A → Rule) (xs : List A) (i : ℕ) (d : A) (start old new : App) (added : Rule) → i < length xs
    → old ≡ with_rules start (map rule (take i xs)) → added ≡ rule (get_or xs i d) → new ≡ with_rule old added → new ≡ with_rules start (map rule (take (i + 1) xs))
rule_more rule xs i d start old new added within so is more =
    rw (more, so, is, take_more xs i d within, map-append rule (take i xs) (get_or xs i d ∷ []))
    (ap (λ (rules : List Rule). with_rules (record start { top = record start.top { rules = [] } }) rules) (append_assoc start.top.rules (map rule (take i xs)) (rule (get_or xs i d) ∷ [])))

-- the settings of the program
abbrev pub needing : App → App
needing a = record a { top = record a.top { subcommand_required = true } }

abbrev pub without_help_flag : App → App
without_help_flag a = record a { top = record a.top { disable_help_flag = true } }

abbrev pub without_help_command : App → App
without_help_command a = record a { top = record a.top { disable_help_subcommand = true } }

-- what `clap` promises of this program
simple : is_simple program ≡ true
unfolding clap_on_literals
simple = refl

simple_and_free : is_simple_and_free program ≡ true
unfolding clap_on_literals
simple_and_free = refl

-- words that are taken denote the line of the matches
pub words_taken : (app : App) (words : List Text) (m : ArgMatches) (line : Option Line) → app ≡ program → (is_simple_and_free app ≡ true → fault_of app words ≡ []) → HasMatchesOf app words m
    → line ≡ line_named (subcommand_rows_of m) → denoted_line words ≡ line
unfolding denoted_line
words_taken app words m line is kinds matches named =
    let free : fault_of program words ≡ [] = subst (λ (a : App). fault_of a words ≡ []) is (kinds (ap is_simple_and_free is ∙ simple_and_free)) in
    let given : subcommand_rows_of m ≡ subcommand_of program words = (matches (ap is_simple is ∙ simple)).1 ∙ ap (λ (a : App). subcommand_of a words) is in
    rw free (ap line_named (sym given) ∙ sym named)

-- and words that are refused for another cause than memory denote none
pub words_refused : (app : App) (words : List Text) (e : Error) → app ≡ program → (is_simple_and_free app ≡ true → HasKind (fault_of app words) e) → (kind_of e ≡ OutOfMemory → ⊥) → denoted_line words ≡ None
unfolding denoted_line
words_refused app words e is kinds other =
    some_kind (fault_of program words) (subst (λ (a : App). HasKind (fault_of a words) e) is (kinds (ap is_simple_and_free is ∙ simple_and_free)))
  where
    some_kind : (faults : Kinds) → HasKind faults e → (if is_empty faults then line_named (subcommand_of program words) else None) ≡ None
    some_kind [] (inl memory) = absurd (other memory)
    some_kind [] (inr among) = absurd among
    some_kind (k ∷ ks) has = rw (eqb-suc-zero (length ks)) refl

-- what follows of a value that is there
pub ok_then : {A F : Type 0} (P Q : A → Type 0) → ((x : A) → P x → Q x) → (r : Result A F) → IfOk r P → IfOk r Q
ok_then P Q go (Ok x) p = go x p
ok_then P Q go (Err e) p = tt
