-- The shapes of the commands are taken, and each denotes its line.
use Rattle.std.proofs.Common.{◌≡◌, ◌||◌, ◌++◌, ℕ, Bool, true, false, cond, List, [], ◌∷◌, Some, fold, map, option_map, codes, refl, sym, ap, ◌∙◌}
use Rattle.std.proofs.lemmas.List.{append-nil, append_assoc}
use Rattle.std.specs.List.{find, list_all}
use Rattle.std.specs.Str.{bytes_eq}
use Rattle.std.specs.Bool.{Decides}
use Rattle.std.proofs.lemmas.Slice.Eq.{bytes_eq-Decides}
use Rattle.clap.specs.Faults.{built_fault, defaults_fault, fault_of, level_fault, turn_fault, walk_fault}
use Rattle.clap.specs.Simple.{Shape, built, entered, label_of, names_of, rows_at, subcommand_of}
use Rattle.clap.specs.Walk.{Names, Row, Text, Walk, answers_to, nothing_held, rows_after, walk, walk_from, walked}
use Rattle.rp_command_line.specs.CommandLine.{Arguments, Line, command_named, commands, form_of, forms}
use Rattle.rp_command_line.specs.declared.commands.Command.{Command}
use Rattle.rp_command_line.specs.declared.commands.Command.TheVariants.{Pairs}
use Rattle.rp_command_line.specs.Commands.{program, program_of}
use Rattle.rp_command_line.specs.CommandForms.{CommandForm}
use Rattle.rp_command_line.specs.Shapes.{Fits, HasShape, shape_of, words_of}
use Rattle.rp_command_line.specs.Words.{denoted_line}
use Rattle.rp_command_line.proofs.FormsTaken.{end_rows, given_again, is_orderly, orderly, rows_are, words_free}
use Rattle.rp_command_line.proofs.KeptRows.{all_found, every}
use Rattle.rp_command_line.proofs.Leaves.{leaf, leaves}
use Rattle.rp_command_line.proofs.UsesTaken.{and_false}

-- the name of a form is that of its command
module _ (name : Text) (form : CommandForm) where
  command_found : (some : List CommandForm) → find (λ x. bytes_eq x.name name) some ≡ Some form → find (λ s. answers_to name (label_of s)) (leaves some) ≡ Some (leaf form)
  command_found [] is = cc
  command_found (x ∷ xs) is = go (command_found xs) (bytes_eq x.name name) is
    where
      go : (find (λ y. bytes_eq y.name name) xs ≡ Some form → find (λ s. answers_to name (label_of s)) (leaves xs) ≡ Some (leaf form)) → (b : Bool)
          → cond b (Some x) (find (λ y. bytes_eq y.name name) xs) ≡ Some form → cond (b || false) (Some (leaf x)) (find (λ s. answers_to name (label_of s)) (leaves xs)) ≡ Some (leaf form)
      go later true is = ap (option_map leaf) is
      go later false is = later is

  name_found : (some : List CommandForm) → find (λ x. bytes_eq x.name name) some ≡ Some form → find (answers_to name) (names_of (built (program_of some))) ≡ Some (label_of (leaf form))
  name_found [] is = cc
  name_found (x ∷ xs) is = go (name_found xs) (bytes_eq x.name name) is
    where
      go : (find (λ y. bytes_eq y.name name) xs ≡ Some form → find (answers_to name) (names_of (built (program_of xs))) ≡ Some (label_of (leaf form))) → (b : Bool)
          → cond b (Some x) (find (λ y. bytes_eq y.name name) xs) ≡ Some form → cond (b || false) (Some (label_of (leaf x))) (find (answers_to name) (names_of (built (program_of xs)))) ≡ Some (label_of (leaf form))
      go later true is = ap (option_map (λ (f : CommandForm). label_of (leaf f))) is
      go later false is = later is

-- once a command is met, the walk goes over the words after it
module _ (s : Shape) (names : Names) where
  abbrev stopped_at : Text → List Text → Walk
  stopped_at name words = record (walk_from nothing_held) { stopped = Some (name, words) }

  stopped_goes : (name : Text) (words rest : List Text) → fold (walked s.rules names) (stopped_at name words) rest ≡ stopped_at name (words ++ rest)
  unfolding walked
  stopped_goes name words [] = ap (stopped_at name) (sym (append-nil words))
  stopped_goes name words (word ∷ rest) = stopped_goes name (words ++ word ∷ []) rest ∙ ap (stopped_at name) (append_assoc words (word ∷ []) rest)

  stopped_free : (name : Text) (words rest : List Text) → walk_fault s names (stopped_at name words) rest ≡ []
  unfolding walk_fault walked
  stopped_free name words [] = refl
  stopped_free name words (word ∷ rest) = stopped_free name (words ++ word ∷ []) rest

-- so the program takes the words that the command takes, and its matches are those of the command
module _ (some : List CommandForm) (form : CommandForm) (own : find (λ x. bytes_eq x.name form.name) some ≡ Some form) (rest : List Text) where
  abbrev app_top : Shape
  app_top = (built (program_of some)).top

  abbrev app_names : Names
  app_names = names_of (built (program_of some))

  meets : walked app_top.rules app_names (walk_from nothing_held) form.name ≡ stopped_at app_top app_names form.name []
  unfolding walked
  meets = rw (name_found form.name form some own) refl

  meets_free : turn_fault app_top app_names (walk_from nothing_held) form.name ≡ []
  meets_free = rw (name_found form.name form some own, and_false (bytes_eq form.name (codes "help"))) refl

  walk_stops : walk app_top.rules app_names nothing_held (form.name ∷ rest) ≡ stopped_at app_top app_names form.name rest
  walk_stops = ap (λ (w : Walk). fold (walked app_top.rules app_names) w rest) meets ∙ stopped_goes app_top app_names form.name [] rest

  walk_stops_free : walk_fault app_top app_names (walk_from nothing_held) (form.name ∷ rest) ≡ []
  unfolding walk_fault
  walk_stops_free = rw (meets_free, meets) (stopped_free app_top app_names form.name [] rest)

  program_free : level_fault (leaf form) [] nothing_held rest false [] ≡ [] → built_fault (built (program_of some)) nothing_held (form.name ∷ rest) ≡ []
  unfolding defaults_fault
  program_free free = rw (walk_stops_free, walk_stops, command_found form.name form some own, free) refl

  program_named : (name : Text) → subcommand_of (program_of some) (name ∷ form.name ∷ rest) ≡ Some (form.name, rows_after (leaf form).rules [] rest)
  program_named name =
      ap (λ (w : Walk). entered (built (program_of some)) w.stopped) walk_stops ∙ ap (option_map (λ (s : Shape). rows_at s rest)) (command_found form.name form some own)

-- each form is found by its name, and each of its arguments where it is looked for
commands_orderly : list_all (λ command. is_orderly (form_of command)) commands ≡ true
commands_orderly = refl

names_swap : (one other : Text) → bytes_eq one other ≡ bytes_eq other one
names_swap one other = go (bytes_eq one other) (bytes_eq other one) (bytes_eq-Decides one other) (bytes_eq-Decides other one)
  where
    go : (a b : Bool) → Decides a (one ≡ other) → Decides b (other ≡ one) → a ≡ b
    go true true d e = refl
    go true false d e = sym (e.1 (sym (d.0 refl)))
    go false true d e = d.1 (sym (e.0 refl))
    go false false d e = refl

form_found : (name : Text) (command : Command) (some : List Command) → find (λ c. bytes_eq name (form_of c).name) some ≡ Some command
    → find (λ form. bytes_eq form.name name) (map form_of some) ≡ Some (form_of command)
form_found name command [] is = cc
form_found name command (c ∷ cs) is = rw (names_swap (form_of c).name name) (go (form_found name command cs) (bytes_eq name (form_of c).name) is)
  where
    go : (find (λ c. bytes_eq name (form_of c).name) cs ≡ Some command → find (λ form. bytes_eq form.name name) (map form_of cs) ≡ Some (form_of command)) → (b : Bool)
        → cond b (Some c) (find (λ c. bytes_eq name (form_of c).name) cs) ≡ Some command → cond b (Some (form_of c)) (find (λ form. bytes_eq form.name name) (map form_of cs)) ≡ Some (form_of command)
    go later true is = ap (option_map form_of) is
    go later false is = later is

-- the words of a command denote its line with what is given
module _ (command : Command) (own : command_named (form_of command).name ≡ Some command) (arguments : Arguments) (fits : Fits (form_of command) arguments) (name : Text) where
  abbrev words : List Text
  words = name ∷ (form_of command).name ∷ words_of arguments

  abbrev form : CommandForm
  form = form_of command

  command_denotes : denoted_line words ≡ Some (record { command = command; arguments = arguments })
  unfolding denoted_line
  command_denotes =
      let o = orderly form (all_found (λ c. is_orderly (form_of c) ≡ true) (λ c. bytes_eq form.name (form_of c).name) command commands (every (λ c. is_orderly (form_of c)) commands commands_orderly) own) in
      let found = form_found form.name command commands own in
      let free : fault_of program words ≡ [] = program_free forms form found (words_of arguments) (words_free form o arguments fits) in
      let matches : subcommand_of program words ≡ Some (form.name, end_rows form o arguments fits) =
      program_named forms form found (words_of arguments) name ∙ ap (λ (rows : List Row). Some (form.name, rows)) (rows_are form o arguments fits) in
      rw (free, matches, own, given_again form o arguments fits) refl

-- each command is the one of its name
each_own : (command : Command) → command_named (form_of command).name ≡ Some command
each_own Pairs = refl
each_own _ = refl

pub shape_taken : (name : List ℕ) (line : Line) → HasShape line → denoted_line (name ∷ shape_of line) ≡ Some line
shape_taken name line fits = command_denotes line.command (each_own line.command) line.arguments fits name

-- the same of words that are those of a shape
pub shape_given : (arguments : List (List ℕ)) (line : Line) (name : List ℕ) → HasShape line → arguments ≡ name ∷ shape_of line → denoted_line arguments ≡ Some line
shape_given arguments line name has is = ap denoted_line is ∙ shape_taken name line has
