-- What a list of words asks for. The first word is the program's name. Which words are taken, and with which matches,
-- is said by the library `clap`, as a function of the commands and of the words.
use Rattle.std.specs.Prelude.{ℕ, Bool, false, List, [], ◌∷◌, Option, Some, None, option_and_then, option_map}
use Rattle.std.specs.Prelude.{if◌then◌else◌, codes, map, string_bytes}
use Rattle.std.specs.Option.{option_map_or}
use Rattle.std.specs.Str.{bytes_eq}
use Rattle.std.specs.Str.Parse.{digits_value, without_leading_plus}
use Rattle.std.specs.declared.string.String.{String}
use Rattle.clap.specs.Faults.{fault_of}
use Rattle.clap.specs.Simple.{subcommand_of}
use Rattle.clap.specs.ValueTests.{is_unsigned_in}
use Rattle.clap.specs.Walk.{Row, Text, first_of, is_empty, one_of}
use Rattle.rp_command_line.specs.CommandLine.{Arguments, Line, command_named, form_of}
use Rattle.rp_command_line.specs.Commands.{program}
use Rattle.rp_command_line.specs.CommandForms.{CommandForm, NumberArgument, units}
use Rattle.rp_command_line.specs.CommandLine.{file_names}

-- a number in its range, in decimal digits
abbrev pub number_in : NumberArgument → Text → Option ℕ
number_in n text = if is_unsigned_in n.least n.most text
    then Some (digits_value 10 (without_leading_plus text)) else None

abbrev pub number_of : NumberArgument → List Row → Option ℕ
number_of n matches = option_and_then (number_in n) (one_of n.name matches)

-- whether JSON is asked for
abbrev pub json_of : List Row → Bool
json_of matches = option_map_or (λ text. bytes_eq text (codes "true")) (first_of (codes "json") matches) false

-- the values that the matches have of each of a list of arguments, where they have one of each
abbrev pub all_in : {X V : Type 0} → (X → List Row → Option V) → List X → List Row → Option (List V)
all_in read [] matches = Some []
all_in read (x ∷ xs) matches =
    option_and_then (λ v. option_map (λ vs. v ∷ vs) (all_in read xs matches)) (read x matches)

-- what the matches give to a command of that form
abbrev pub arguments_in : CommandForm → List Row → Option Arguments
arguments_in form matches =
    option_and_then (λ files. option_map (λ numbers. record {
      files = files;
      numbers = numbers;
      per = if form.per then number_of units matches else None;
      json = if form.json then json_of matches else false;
    }) (all_in number_of form.numbers matches)) (all_in first_of (file_names form.files) matches)

-- the line of the command of that name, by its matches
abbrev pub command_line : Text → List Row → Option Line
command_line name matches =
    option_and_then (λ command. option_map (λ arguments. record { command = command; arguments = arguments })
    (arguments_in (form_of command) matches))
    (command_named name)

abbrev pub line_named : Option (Text × List Row) → Option Line
line_named matches = option_and_then (λ m. command_line m.0 m.1) matches

-- the line that the words denote: that of the matches, where `clap` takes the words
unfoldable pub denoted_line : List (List ℕ) → Option Line
denoted_line words = if is_empty (fault_of program words) then line_named (subcommand_of program words) else None

-- the same of words as strings
abbrev pub line_in : {Z : Type 0} → List (String Z) → Option Line
line_in words = denoted_line (map string_bytes words)
