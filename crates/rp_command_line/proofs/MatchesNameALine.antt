-- The words that `clap` takes name a line: the matches of a command of any form hold all that its line is made of.
use Rattle.std.proofs.Common.{◌≡◌, ◌&&◌, ◌++◌, ℕ, Bool, true, false, not, List, [], ◌∷◌, Option, Some, None, IsSome, is_some, map, option_map, refl}
use Rattle.std.specs.List.{AllByRecursion, find, list_all}
use Rattle.std.specs.Option.{option_map_or}
use Rattle.std.specs.Str.{bytes_eq}
use Rattle.clap.specs.Faults.{built_fault, check_fault, defaults_fault, entered_fault, fault_of, level_fault, settle_fault, walk_fault}
use Rattle.clap.specs.Kinds.{or_else}
use Rattle.clap.specs.Simple.{App, Shape, argument_words, built, entered, filled, filled_from, index_after, label_of, names_of, rows_at, subcommand_of, with_index}
use Rattle.clap.specs.Walk.{Row, Rule, Text, answers_to, first_of, finished, nothing_held, rows_after, settled, walk, walk_from}
use Rattle.rp_command_line.specs.CommandLine.{Arguments, Line, command_named, commands, form_of}
use Rattle.rp_command_line.specs.declared.commands.Command.{Command}
use Rattle.rp_command_line.specs.Commands.{file_rule, number_rule, program, rules_of}
use Rattle.rp_command_line.specs.CommandForms.{CommandForm, NumberArgument}
use Rattle.rp_command_line.specs.CommandLine.{file_names}
use Rattle.rp_command_line.specs.Words.{all_in, command_line, arguments_in, line_named, denoted_line, number_of}
use Rattle.rp_command_line.proofs.KeptRows.{IsKept, all_found, are_kept, each_found, every, first_free, kept_from, second_free}
use Rattle.rp_command_line.proofs.KeptWalk.{AreTaken, level_taken, none_wanted}
use Rattle.rp_command_line.proofs.Leaves.{leaf, leaves}
use Rattle.rp_command_line.proofs.ReadRows.{number_read, required_read}

-- the rows of the command name a line, where it takes its words
abbrev NamesALine : Shape → Type 0
NamesALine s = (rows : List Row) → AreTaken s.rules rows → IsSome (command_line s.name rows)

abbrev has_kept_rules : Shape → Bool
has_kept_rules s = are_kept s.rules

-- where no command is wanted, one was met
met : (has required : Bool) → required ≡ true → (not has && required) ≡ false → has ≡ true
met true required is none = refl
met false required is none = cc

-- a program whose commands all have such rows and rules
module _ (a : App) (all_kept : list_all has_kept_rules a.subs ≡ true) (all_name : AllByRecursion NamesALine a.subs) where
  stop_named : (stop : Option (Text × List Text)) → is_some (entered a stop) ≡ true → entered_fault a stop ≡ [] → IsSome (line_named (entered a stop))
  stop_named None has free = cc
  stop_named (Some p) has free = go (find (λ s. answers_to p.0 (label_of s)) a.subs) refl has free
    where
      go : (found : Option Shape) → find (λ s. answers_to p.0 (label_of s)) a.subs ≡ found → is_some (option_map (λ s. rows_at s p.1) found) ≡ true
          → option_map_or (λ s. level_fault s [] nothing_held p.1 false []) found [] ≡ [] → IsSome (line_named (option_map (λ s. rows_at s p.1) found))
      go None is has free = cc
      go (Some s) is has free =
          let kept = all_found (λ s. has_kept_rules s ≡ true) (λ s. answers_to p.0 (label_of s)) s a.subs (every has_kept_rules a.subs all_kept) is in
          all_found NamesALine (λ s. answers_to p.0 (label_of s)) s a.subs all_name is (rows_after s.rules [] p.1) (level_taken s (kept_from s.rules kept) p.1 free)

  built_named : (words : List Text) → a.top.subcommand_required ≡ true → built_fault a nothing_held words ≡ [] → IsSome (line_named (entered a (walk a.top.rules (names_of a) nothing_held words).stopped))
  built_named words required free =
      let stop = (walk a.top.rules (names_of a) nothing_held words).stopped in
      let end = (walk a.top.rules (names_of a) nothing_held words).held in
      let walks = walk_fault a.top (names_of a) (walk_from nothing_held) words in
      let settles = settle_fault a.top.rules a.top.args_override_self end in
      let defaults = defaults_fault (settled a.top.rules end).rows a.top.rules in
      let checks = check_fault a.top (finished a.top.rules end) (is_some (entered a stop)) in
      let below = second_free walks (or_else (entered_fault a stop) (or_else settles (or_else defaults checks))) free in
      let after = second_free (entered_fault a stop) (or_else settles (or_else defaults checks)) below in
      let checked = second_free defaults checks (second_free settles (or_else defaults checks) after) in
      let has = met (is_some (entered a stop)) a.top.subcommand_required required (none_wanted _ _ _ checked).0 in
      stop_named stop has (first_free (entered_fault a stop) (or_else settles (or_else defaults checks)) below)

-- the matches of a command that took its words, of any form
module _ (c : List Rule) (rows : List Row) (taken : AreTaken c rows) where
  -- they have a value of each of its arguments of a sort, where they have one of any of that sort
  module _ {X V : Type 0} (rule : X → Rule) (read : X → List Row → Option V) (reads : (x : X) (i : ℕ) → IsKept c (with_index i (filled (rule x))) → (v : V) × (read x rows ≡ Some v)) where
    all_read : (xs : List X) (i : ℕ) (more : List Rule) → AllByRecursion (IsKept c) (filled_from i (map rule xs ++ more))
        → ((vs : List V) × (all_in read xs rows ≡ Some vs)) × ((j : ℕ) × AllByRecursion (IsKept c) (filled_from j more))
    all_read [] i more kept = (([], refl), (i, kept))
    all_read (x ∷ xs) i more kept =
        let later = all_read xs (index_after i (rule x)) more kept.1 in
        let this = reads x i kept.0 in
        ((this.0 ∷ later.0.0, rw (this.1, later.0.1) refl), later.1)

  file_reads : (id : Text) (i : ℕ) → IsKept c (with_index i (filled (file_rule id))) → (text : Text) × (first_of id rows ≡ Some text)
  file_reads id i kept = let read = required_read c rows (with_index i (filled (file_rule id))) taken kept.own refl in (read.text, read.first)

  number_reads : (number : NumberArgument) (i : ℕ) → IsKept c (with_index i (filled (number_rule number))) → (n : ℕ) × (number_of number rows ≡ Some n)
  number_reads number i kept =
      let a = with_index i (filled (number_rule number)) in
      number_read a number rows refl refl (required_read c rows a taken kept.own refl)

given_named : (form : CommandForm) (rows : List Row) → AreTaken (filled_from 1 (rules_of form)) rows → IsSome (arguments_in form rows)
given_named form rows taken =
    let c = filled_from 1 (rules_of form) in
    let files = all_read c rows taken file_rule first_of (file_reads c rows taken) (file_names form.files) 1 _ taken.kept in
    let numbers = all_read c rows taken number_rule number_of (number_reads c rows taken) form.numbers files.1.0 _ files.1.1 in
    rw (files.0.1, numbers.0.1) refl

-- in the order of the commands
command_names : (command : Command) → command_named (form_of command).name ≡ Some command → NamesALine (leaf (form_of command))
command_names command own rows taken = rw own (go (arguments_in (form_of command) rows) (given_named (form_of command) rows taken))
  where
    over : Arguments → Line
    over arguments = record { command = command; arguments = arguments }

    go : (arguments : Option Arguments) → IsSome arguments → IsSome (option_map over arguments)
    go None some = some
    go (Some arguments) some = refl

all_names : (some : List Command) → AllByRecursion (λ command. command_named (form_of command).name ≡ Some command) some → AllByRecursion NamesALine (leaves (map form_of some))
all_names [] own = tt
all_names (command ∷ more) own = (command_names command own.0, all_names more own.1)

-- each command is the one of its name
pub each_own : AllByRecursion (λ command. command_named (form_of command).name ≡ Some command) commands
each_own = each_found (λ command other. bytes_eq (form_of command).name (form_of other).name) commands refl

-- words without a fault have matches that name a line
pub matches_name_a_line : (words : List (List ℕ)) → fault_of program words ≡ [] → IsSome (line_named (subcommand_of program words))
matches_name_a_line words free = built_named (built program) refl (all_names commands each_own) (argument_words program words) refl free

-- so words of which no line comes are refused
pub refused_where_no_line : (words : List (List ℕ)) → denoted_line words ≡ None → fault_of program words ≡ [] → ⊥
unfolding denoted_line
refused_where_no_line words none free = let some = matches_name_a_line words free in let wrong = rw free at none in let no = rw wrong at some in cc
