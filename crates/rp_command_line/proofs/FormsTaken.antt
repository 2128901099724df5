-- Words that give the command of a form what it asks for are taken, whatever the form, and its matches give that again.
-- `clap`'s walk is led on by the words of one argument after another (`Leads`), files, numbers and options; where it
-- ends nothing is missed and defaults come, and each argument is found in the rows by its own id.
use Rattle.std.proofs.Common.{◌≡◌, ◌&&◌, ◌||◌, ◌++◌, ◌<◌, ◌^◌, ℕ, Bool, true, false, not, List, [], ◌∷◌, Option, Some, None, fold, is_some, map, nat_lt, codes, refl, sym, ap, ◌∙◌, if◌then◌else◌, arith}
use Rattle.std.proofs.lemmas.List.{append-nil}
use Rattle.std.proofs.lemmas.List.Folds.{find-append}
use Rattle.std.specs.Fmt.{decimal}
use Rattle.std.specs.List.{AllByRecursion, find, list_all, list_any}
use Rattle.std.specs.Option.{option_map_or}
use Rattle.std.specs.Str.{bytes_eq}
use Rattle.std.proofs.lemmas.Bool.{ltb-true}
use Rattle.std.proofs.lemmas.Slice.Eq.{bytes_eq-Decides}
use Rattle.clap.proofs.WalkLemmas.{both}
use Rattle.clap.specs.Faults.{check_fault, default_fault, defaults_fault, level_fault, walk_fault}
use Rattle.clap.specs.Simple.{filled_from}
use Rattle.clap.specs.Takes.{is_given}
use Rattle.clap.specs.Walk.{Held, Row, Rule, Text, Walk, arg_by_id, arg_by_long, finished, first_of, has_long, has_row, more_values, nothing_held, rows_after, settled, walk, walk_from, walked, with_default}
use Rattle.clap.specs.declared.builder.value_parser.Reading.TheVariants.{AsWritten}
use Rattle.clap.specs.declared.builder.value_parser.ValueParser.TheVariants.{NonEmptyString, Unsigned}
use Rattle.clap.specs.declared.parser.matches.ValueSource.TheVariants.{DefaultValue}
use Rattle.rp_command_line.specs.CommandLine.{Arguments}
use Rattle.rp_command_line.specs.Commands.{json_rule, number_rule, per_rule, where_asked}
use Rattle.rp_command_line.specs.CommandForms.{CommandForm, NumberArgument, units}
use Rattle.rp_command_line.specs.CommandLine.{file_names}
use Rattle.rp_command_line.specs.Shapes.{AreInRange, AreFileNames, AreUnits, Fits, MayAsk, json_word, per_words, words_of}
use Rattle.rp_command_line.specs.Words.{all_in, arguments_in, json_of, number_of}
use Rattle.rp_command_line.proofs.KeptRows.{IsKept, all_found, are_kept, kept_from}
use Rattle.rp_command_line.proofs.Leaves.{leaf}
use Rattle.rp_command_line.proofs.PlacesTaken.{AreAt, AreFound, AreFresh, AreTakenAt, after, all_are_found, all_at, all_lead, are_apart, are_at, found_more, fresh_both, kept_found, name, new_found, no_default_comes, no_default_fails, none_found, none_fresh, none_missed, rows_for, same_if}
use Rattle.rp_command_line.proofs.PlainWords.{file_word, number_word}
use Rattle.rp_command_line.proofs.UsesTaken.{IsCalm, Leads, Place, absent, at, json_built, json_leads, or_true, per_built, per_leads, row, stays, then_leads}

-- the place of a file, and of a number
abbrev pub file_place : Text → Place
file_place id = (id, NonEmptyString)

abbrev pub number_place : NumberArgument → Place
number_place number = (number.name, Unsigned number.least number.most)

-- what the test of a number's range is about
abbrev IsSmall : NumberArgument → Type 0
IsSmall number = number.most < 2 ^ 64

-- names of files and numbers in range are taken at their places
files_taken : (ids : List Text) (files : List Text) → AreFileNames ids files → AreTakenAt file_place ids files
files_taken [] [] named = tt
files_taken [] (file ∷ files) named = absurd named
files_taken (id ∷ ids) [] named = absurd named
files_taken (id ∷ ids) (file ∷ files) named = let word = file_word file named.0 in ((word.plain, word.filled), files_taken ids files named.1)

numbers_taken : (numbers : List NumberArgument) (ns : List ℕ) → AllByRecursion IsSmall numbers → AreInRange numbers ns → AreTakenAt number_place numbers (map decimal ns)
numbers_taken [] [] small ranges = tt
numbers_taken [] (n ∷ ns) small ranges = absurd ranges
numbers_taken (number ∷ numbers) [] small ranges = absurd ranges
numbers_taken (number ∷ numbers) (n ∷ ns) small ranges =
    let word = number_word number.least number.most n (omega (arith, small.0, ranges.0.1)) ranges.0.0 ranges.0.1 in
    ((word.plain, word.taken), numbers_taken numbers ns small.1 ranges.1)

-- and are read again
files_read : (ids : List Text) (files : List Text) (rows : List Row) → AreFound file_place ids files rows → all_in first_of ids rows ≡ Some files
files_read [] [] rows found = refl
files_read [] (file ∷ files) rows found = absurd found
files_read (id ∷ ids) [] rows found = absurd found
files_read (id ∷ ids) (file ∷ files) rows found = rw (found.0, files_read ids files rows found.1) refl

numbers_read : (numbers : List NumberArgument) (ns : List ℕ) (rows : List Row) → AllByRecursion IsSmall numbers → AreInRange numbers ns → AreFound number_place numbers (map decimal ns) rows
    → all_in number_of numbers rows ≡ Some ns
numbers_read [] [] rows small ranges found = refl
numbers_read [] (n ∷ ns) rows small ranges found = absurd ranges
numbers_read (number ∷ numbers) [] rows small ranges found = absurd ranges
numbers_read (number ∷ numbers) (n ∷ ns) rows small ranges found =
    let word = number_word number.least number.most n (omega (arith, small.0, ranges.0.1)) ranges.0.0 ranges.0.1 in
    rw (found.0, word.taken, numbers_read numbers ns rows small.1 ranges.1 found.1) (ap (λ (m : ℕ). Some (m ∷ ns)) word.value)

-- the rows of the options, of which that of JSON comes by default
abbrev pub per_rows : Option ℕ → List Row
per_rows None = []
per_rows (Some n) = row units.name AsWritten (decimal n) ∷ []

abbrev pub json_row : Row
json_row = row (codes "json") AsWritten (codes "true")

abbrev json_rows : Bool → List Row
json_rows asked = if asked then json_row ∷ [] else []

abbrev pub json_in_end : Bool → Bool → List Row
json_in_end has asked = if has then (if asked then json_row else record (row (codes "json") AsWritten (codes "false")) { source = Some DefaultValue }) ∷ [] else []

-- an option that a command has is found by its name
abbrev IsOption : List Rule → Bool → Text → Rule → Type 0
IsOption c has id rule = has ≡ true → (arg_by_long c id ≡ Some rule) × (arg_by_id c id ≡ Some rule)

abbrev is_option : List Rule → Bool → Text → Bool
is_option c has id = not has || option_map_or (λ a. bytes_eq a.id id) (arg_by_long c id) false

module _ (c : List Rule) (own : AllByRecursion (λ b. arg_by_id c b.id ≡ Some b) c) where
  option_named : (id : Text) (rule : Rule) (found : Option Rule) → arg_by_long c id ≡ found → option_map_or (λ a. bytes_eq a.id id) found false ≡ true → arg_by_id c id ≡ Some rule
      → (arg_by_long c id ≡ Some rule) × (arg_by_id c id ≡ Some rule)
  option_named id rule None is same mine = cc
  option_named id rule (Some r) is same mine =
      let named : r.id ≡ id = (bytes_eq-Decides r.id id).0 same in
      let its : arg_by_id c r.id ≡ Some r = all_found (λ b. arg_by_id c b.id ≡ Some b) (λ a. not (is_some a.index) && has_long a id) r c own is in
      (is ∙ sym its ∙ ap (arg_by_id c) named ∙ mine, mine)

  option_from : (has : Bool) (id : Text) (rule : Rule) → is_option c has id ≡ true → (has ≡ true → arg_by_id c id ≡ Some rule) → IsOption c has id rule
  option_from true id rule test mine = λ e. option_named id rule (arg_by_long c id) refl test (mine e)
  option_from false id rule test mine = λ e. cc

abbrev option_rules : Bool → Bool → List Rule
option_rules per json = where_asked per per_rule ++ where_asked json json_rule

-- nothing of the options has to be there, and no default of theirs fails
options_unmissed : (per json : Bool) (j : ℕ) (rows : List Row) → list_any (λ a. a.required && not (is_given a.id rows)) (filled_from j (option_rules per json)) ≡ false
options_unmissed true true j rows = refl
options_unmissed true false j rows = refl
options_unmissed false true j rows = refl
options_unmissed false false j rows = refl

json_default_free : (rows : List Row) → default_fault rows json_built ≡ []
json_default_free rows = go (has_row (codes "json") rows) refl
  where
    go : (b : Bool) → has_row (codes "json") rows ≡ b → default_fault rows json_built ≡ []
    go true is = rw is refl
    go false is = rw is refl

options_default_free : (per json : Bool) (j : ℕ) (rows : List Row) → defaults_fault rows (filled_from j (option_rules per json)) ≡ []
unfolding defaults_fault
options_default_free true true j rows = rw (or_true (has_row units.name rows), json_default_free (with_default rows per_built)) refl
options_default_free true false j rows = rw (or_true (has_row units.name rows)) refl
options_default_free false true j rows = rw (json_default_free rows) refl
options_default_free false false j rows = refl

-- each option of a command is found by its id
options_own : (c : List Rule) (per json : Bool) (j : ℕ) → AllByRecursion (λ b. arg_by_id c b.id ≡ Some b) (filled_from j (option_rules per json))
    → (per ≡ true → arg_by_id c units.name ≡ Some per_built) × (json ≡ true → arg_by_id c (codes "json") ≡ Some json_built)
options_own c true true j own = ((λ e. own.0), (λ e. own.1.0))
options_own c true false j own = ((λ e. own.0), (λ e. cc))
options_own c false true j own = ((λ e. cc), (λ e. own.0))
options_own c false false j own = ((λ e. cc), (λ e. cc))

-- the test that each argument of a form is found where it is looked for
abbrev option_names : List Text
option_names = units.name ∷ codes "json" ∷ []

abbrev number_names : CommandForm → List Text
number_names form = map (name number_place) form.numbers ++ option_names

abbrev all_names : CommandForm → List Text
all_names form = map (name file_place) (file_names form.files) ++ number_names form

abbrev pub is_orderly : CommandForm → Bool
is_orderly form =
    are_kept (leaf form).rules
    && (are_at file_place (leaf form).rules 1 (file_names form.files)
    && (are_at number_place (leaf form).rules (after file_place 1 (file_names form.files)) form.numbers
    && (is_option (leaf form).rules form.per units.name
    && (is_option (leaf form).rules form.json (codes "json")
    && (are_apart (all_names form) && list_all (λ number. nat_lt number.most (2 ^ 64)) form.numbers)))))

pub record IsOrderly (form : CommandForm) : Type 0 where
  pub files : AreAt file_place (leaf form).rules 1 (file_names form.files)
  pub numbers : AreAt number_place (leaf form).rules (after file_place 1 (file_names form.files)) form.numbers
  pub per : IsOption (leaf form).rules form.per units.name per_built
  pub json : IsOption (leaf form).rules form.json (codes "json") json_built
  pub apart : are_apart (all_names form) ≡ true
  pub small : AllByRecursion IsSmall form.numbers

all_small : (numbers : List NumberArgument) → list_all (λ number. nat_lt number.most (2 ^ 64)) numbers ≡ true → AllByRecursion IsSmall numbers
all_small [] test = tt
all_small (number ∷ numbers) test = let tests = both _ _ test in (ltb-true number.most (2 ^ 64) tests.0, all_small numbers tests.1)

each_own : (c : List Rule) (rules : List Rule) → AllByRecursion (IsKept c) rules → AllByRecursion (λ b. arg_by_id c b.id ≡ Some b) rules
each_own c [] kept = tt
each_own c (a ∷ rest) kept = (kept.0.own, each_own c rest kept.1)

pub orderly : (form : CommandForm) → is_orderly form ≡ true → IsOrderly form
orderly form test =
    let c = (leaf form).rules in
    let i = after file_place 1 (file_names form.files) in
    let t = both (are_kept c) _ test in
    let t1 = both (are_at file_place c 1 (file_names form.files)) _ t.1 in
    let t2 = both (are_at number_place c i form.numbers) _ t1.1 in
    let t3 = both (is_option c form.per units.name) _ t2.1 in
    let t4 = both (is_option c form.json (codes "json")) _ t3.1 in
    let t5 = both (are_apart (all_names form)) _ t4.1 in
    let own = each_own c c (kept_from c t.0) in
    let files = all_at file_place c own 1 (file_names form.files) (map number_rule form.numbers ++ option_rules form.per form.json) own t1.0 in
    let numbers = all_at number_place c own i form.numbers (option_rules form.per form.json) files.1 t2.0 in
    let options = options_own c form.per form.json (after number_place i form.numbers) numbers.1 in
    record {
      files = files.0;
      numbers = numbers.0;
      per = option_from c own form.per units.name per_built t3.0 options.0;
      json = option_from c own form.json (codes "json") json_built t4.0 options.1;
      apart = t5.0;
      small = all_small form.numbers t5.1;
    }

apart_after : (ids more : List Text) → are_apart (ids ++ more) ≡ true → are_apart more ≡ true
apart_after [] more apart = apart
apart_after (id ∷ ids) more apart = apart_after ids more (both (not (list_any (λ other. bytes_eq id other) (ids ++ more))) (are_apart (ids ++ more)) apart).1

-- the row of JSON at the end, where it was asked for or not
new_is_there : (rows : List Row) (r : Row) → has_row r.id (rows ++ r ∷ []) ≡ true
new_is_there [] r = rw ((bytes_eq-Decides r.id r.id).1 refl) refl
new_is_there (x ∷ xs) r = rw (new_is_there xs r) (or_true (bytes_eq x.id r.id))

json_default : (j : ℕ) (has asked : Bool) (rows : List Row) → MayAsk has asked → has_row (codes "json") rows ≡ false
    → fold with_default (rows ++ json_rows asked) (filled_from j (where_asked has json_rule)) ≡ rows ++ json_in_end has asked
json_default j true true rows may fresh = rw (new_is_there rows json_row) refl
json_default j true false rows may fresh = rw (append-nil rows) (rw fresh (absent (codes "json") (more_values DefaultValue (codes "false" ∷ [])) _ rows fresh))
json_default j false true rows may fresh = cc
json_default j false false rows may fresh = refl

options_default : (j : ℕ) (per has asked : Bool) (rows : List Row) → MayAsk has asked → has_row (codes "json") rows ≡ false
    → fold with_default (rows ++ json_rows asked) (filled_from j (option_rules per has)) ≡ rows ++ json_in_end has asked
options_default j true has asked rows may fresh =
    ap (λ (now : List Row). fold with_default now (filled_from j (where_asked has json_rule))) (same_if (has_row units.name (rows ++ json_rows asked)) (rows ++ json_rows asked))
    ∙ json_default j has asked rows may fresh
options_default j false has asked rows may fresh = json_default j has asked rows may fresh

module _ (form : CommandForm) (o : IsOrderly form) (arguments : Arguments) (fits : Fits form arguments) where
  abbrev pub last : ℕ
  last = after number_place (after file_place 1 (file_names form.files)) form.numbers

  abbrev pub with_files : List Row
  with_files = [] ++ rows_for file_place (file_names form.files) arguments.files

  abbrev pub with_numbers : List Row
  with_numbers = with_files ++ rows_for number_place form.numbers (map decimal arguments.numbers)

  abbrev pub with_per : List Row
  with_per = with_numbers ++ per_rows arguments.per

  names_taken : AreTakenAt file_place (file_names form.files) arguments.files
  names_taken = files_taken (file_names form.files) arguments.files fits.0

  ranges_taken : AreTakenAt number_place form.numbers (map decimal arguments.numbers)
  ranges_taken = numbers_taken form.numbers arguments.numbers o.small fits.1.0

  files_lead : Leads (leaf form) 1 nothing_held arguments.files (after file_place 1 (file_names form.files)) with_files × AreFresh (number_names form) with_files
  files_lead =
      all_lead file_place (leaf form) (file_names form.files) arguments.files (number_names form) 1 nothing_held [] o.files names_taken o.apart (none_fresh (all_names form))
      (record { free = refl; rows_are = refl })

  numbers_apart : are_apart (number_names form) ≡ true
  numbers_apart = apart_after (map (name file_place) (file_names form.files)) (number_names form) o.apart

  numbers_lead : Leads (leaf form) (after file_place 1 (file_names form.files)) files_lead.0.held (map decimal arguments.numbers) last with_numbers × AreFresh option_names with_numbers
  numbers_lead =
      all_lead number_place (leaf form) form.numbers (map decimal arguments.numbers) option_names (after file_place 1 (file_names form.files)) files_lead.0.held with_files o.numbers ranges_taken
      numbers_apart files_lead.1 files_lead.0.calm

  per_lead : (h : Held) (per : Option ℕ) → AreUnits form.per per → IsCalm (leaf form) h with_numbers → Leads (leaf form) last h (per_words per) last (with_numbers ++ per_rows per)
  per_lead h None units calm = rw (append-nil with_numbers) (stays (leaf form) last h with_numbers calm)
  per_lead h (Some n) range calm = go form.per refl range
    where
      go : (has : Bool) → form.per ≡ has → AreUnits has (Some n) → Leads (leaf form) last h (per_words (Some n)) last (with_numbers ++ per_rows (Some n))
      go true is range =
          let word = number_word units.least units.most n (omega (arith, range.1)) range.0 range.1 in
          let found = o.per is in
          per_leads (leaf form) last h with_numbers calm (decimal n) word.plain found.0 found.1 word.taken numbers_lead.1.0
      go false is none = cc

  per_fresh : (per : Option ℕ) → has_row (codes "json") (with_numbers ++ per_rows per) ≡ false
  per_fresh None = fresh_both (codes "json") with_numbers [] numbers_lead.1.1.0 refl
  per_fresh (Some n) = fresh_both (codes "json") with_numbers (per_rows (Some n)) numbers_lead.1.1.0 refl

  json_lead : (h : Held) (asked : Bool) → MayAsk form.json asked → IsCalm (leaf form) h with_per → Leads (leaf form) last h (json_word asked) last (with_per ++ json_rows asked)
  json_lead h false may calm = rw (append-nil with_per) (stays (leaf form) last h with_per calm)
  json_lead h true may calm = go form.json refl may
    where
      go : (has : Bool) → form.json ≡ has → MayAsk has true → Leads (leaf form) last h (json_word true) last (with_per ++ json_rows true)
      go true is may = json_leads (leaf form) last h with_per calm (o.json is).0 (per_fresh arguments.per)
      go false is may = cc

  lead : Leads (leaf form) 1 nothing_held (words_of arguments) last (with_per ++ json_rows arguments.json)
  lead =
      let s = leaf form in
      let files = files_lead.0 in
      let numbers = numbers_lead.0 in
      let per = per_lead numbers.held arguments.per fits.1.1 numbers.calm in
      let json = json_lead per.held arguments.json fits.2 per.calm in
      let options = then_leads s last last last numbers.held (per_words arguments.per) (json_word arguments.json) with_per (with_per ++ json_rows arguments.json) per json in
      let rest = then_leads s (after file_place 1 (file_names form.files)) last last files.held (map decimal arguments.numbers) (per_words arguments.per ++ json_word arguments.json) with_numbers (with_per ++ json_rows arguments.json) numbers options in
      then_leads s 1 (after file_place 1 (file_names form.files)) last nothing_held arguments.files (map decimal arguments.numbers ++ (per_words arguments.per ++ json_word arguments.json)) with_files (with_per ++ json_rows arguments.json) files rest

  -- so the walk ends there, free of faults
  walk_ends : walk (leaf form).rules [] nothing_held (words_of arguments) ≡ at (leaf form) last lead.held
  walk_ends = ap (λ (words : List Text). fold (walked (leaf form).rules []) (walk_from nothing_held) words) (sym (append-nil (words_of arguments))) ∙ lead.walks []

  walk_free : walk_fault (leaf form) [] (walk_from nothing_held) (words_of arguments) ≡ []
  unfolding walk_fault
  walk_free = ap (λ (words : List Text). walk_fault (leaf form) [] (walk_from nothing_held) words) (sym (append-nil (words_of arguments))) ∙ lead.free []

  -- and the matches are these
  abbrev pub end_rows : List Row
  end_rows = with_per ++ json_in_end form.json arguments.json

  defaults_come : fold with_default (with_per ++ json_rows arguments.json) (leaf form).rules ≡ end_rows
  defaults_come =
      no_default_comes file_place (file_names form.files) 1 (map number_rule form.numbers ++ option_rules form.per form.json) (with_per ++ json_rows arguments.json)
      ∙ no_default_comes number_place form.numbers (after file_place 1 (file_names form.files)) (option_rules form.per form.json) (with_per ++ json_rows arguments.json)
      ∙ options_default last form.per form.json arguments.json with_per fits.2 (per_fresh arguments.per)

  finished_are : finished (leaf form).rules lead.held ≡ end_rows
  finished_are = ap (λ (now : List Row). fold with_default now (leaf form).rules) lead.calm.rows_are ∙ defaults_come

  pub rows_are : rows_after (leaf form).rules [] (words_of arguments) ≡ end_rows
  rows_are = ap (λ (w : Walk). finished (leaf form).rules w.held) walk_ends ∙ finished_are

  -- what is found in them
  files_found : AreFound file_place (file_names form.files) arguments.files end_rows
  files_found =
      found_more file_place (file_names form.files) arguments.files with_per (json_in_end form.json arguments.json)
      (found_more file_place (file_names form.files) arguments.files with_numbers (per_rows arguments.per)
      (found_more file_place (file_names form.files) arguments.files with_files (rows_for number_place form.numbers (map decimal arguments.numbers))
      (all_are_found file_place (file_names form.files) arguments.files (number_names form) [] names_taken o.apart (none_fresh (all_names form)))))

  numbers_found : AreFound number_place form.numbers (map decimal arguments.numbers) end_rows
  numbers_found =
      found_more number_place form.numbers (map decimal arguments.numbers) with_per (json_in_end form.json arguments.json)
      (found_more number_place form.numbers (map decimal arguments.numbers) with_numbers (per_rows arguments.per)
      (all_are_found number_place form.numbers (map decimal arguments.numbers) option_names with_files ranges_taken numbers_apart files_lead.1))

  json_row_not_per : (has asked : Bool) → has_row units.name (json_in_end has asked) ≡ false
  json_row_not_per true true = refl
  json_row_not_per true false = refl
  json_row_not_per false asked = refl

  per_read : (has : Bool) (per : Option ℕ) → AreUnits has per → arguments.per ≡ per → (if has then number_of units end_rows else None) ≡ per
  per_read true None range is =
      let none : has_row units.name with_per ≡ false = rw is (fresh_both units.name with_numbers [] numbers_lead.1.0 refl) in
      rw (none_found units.name end_rows (fresh_both units.name with_per (json_in_end form.json arguments.json) none (json_row_not_per form.json arguments.json))) refl
  per_read true (Some n) range is =
      let word = number_word units.least units.most n (omega (arith, range.1)) range.0 range.1 in
      let r = row units.name AsWritten (decimal n) in
      let found : find (λ x. bytes_eq x.id units.name) with_per ≡ Some r = rw is (new_found with_numbers [] r numbers_lead.1.0) in
      rw (kept_found (λ x. bytes_eq x.id units.name) with_per (json_in_end form.json arguments.json) r found, word.taken) (ap (λ (m : ℕ). Some m) word.value)
  per_read false per range is = sym range

  json_read : (has asked : Bool) → MayAsk has asked → form.json ≡ has → arguments.json ≡ asked → (if has then json_of end_rows else false) ≡ asked
  json_read true true may has is =
      rw (find-append (λ x. bytes_eq x.id (codes "json")) with_per (json_in_end form.json arguments.json), none_found (codes "json") with_per (per_fresh arguments.per), has, is) refl
  json_read true false may has is =
      rw (find-append (λ x. bytes_eq x.id (codes "json")) with_per (json_in_end form.json arguments.json), none_found (codes "json") with_per (per_fresh arguments.per), has, is) refl
  json_read false asked may has is = sym may

  -- which give again what was given
  pub given_again : arguments_in form end_rows ≡ Some arguments
  given_again =
      rw (files_read (file_names form.files) arguments.files end_rows files_found, numbers_read form.numbers arguments.numbers end_rows o.small fits.1.0 numbers_found)
      (λ k. Some (record { files = arguments.files; numbers = arguments.numbers; per = per_read form.per arguments.per fits.1.1 refl k; json = json_read form.json arguments.json fits.2 refl refl k }))

  -- nothing is missed
  checks_free : check_fault (leaf form) end_rows false ≡ []
  checks_free =
      let none = none_missed file_place (file_names form.files) arguments.files end_rows 1 (map number_rule form.numbers ++ option_rules form.per form.json) files_found
      (none_missed number_place form.numbers (map decimal arguments.numbers) end_rows (after file_place 1 (file_names form.files)) (option_rules form.per form.json) numbers_found
      (options_unmissed form.per form.json last end_rows)) in
      rw none refl

  defaults_free : (rows : List Row) → defaults_fault rows (leaf form).rules ≡ []
  defaults_free =
      no_default_fails file_place (file_names form.files) 1 (map number_rule form.numbers ++ option_rules form.per form.json)
      (no_default_fails number_place form.numbers (after file_place 1 (file_names form.files)) (option_rules form.per form.json) (options_default_free form.per form.json last))

  -- so the command takes the words
  pub words_free : level_fault (leaf form) [] nothing_held (words_of arguments) false [] ≡ []
  words_free = rw (walk_free, walk_ends, lead.calm.free, defaults_free (settled (leaf form).rules lead.held).rows, finished_are, checks_free) refl
