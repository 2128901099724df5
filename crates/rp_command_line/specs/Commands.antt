-- The commands of the program, as the library `clap` is told of them, by their forms. By these `clap` says which
-- words it takes, and what its matches are.
use Rattle.std.specs.Prelude.{Bool, true, false, List, [], ◌∷◌, ◌++◌, Some, codes, map, if◌then◌else◌}
use Rattle.clap.specs.Simple.{App, Shape, new_rule, new_shape}
use Rattle.clap.specs.Walk.{Rule, Text}
use Rattle.clap.specs.declared.builder.action.ArgAction.TheVariants.{SetTrue}
use Rattle.clap.specs.declared.builder.value_parser.ValueParser.TheVariants.{NonEmptyString, Unsigned}
use Rattle.rp_command_line.specs.CommandLine.{forms}
use Rattle.rp_command_line.specs.CommandForms.{CommandForm, NumberArgument, units}
use Rattle.rp_command_line.specs.CommandLine.{file_names}

-- the name of a file, which has to be there and is not empty
abbrev pub file_rule : Text → Rule
file_rule id = record (new_rule id) { parser = Some NonEmptyString; required = true }

-- a number in its range, which has to be there
abbrev pub number_rule : NumberArgument → Rule
number_rule number = record (new_rule number.name)
    { parser = Some (Unsigned number.least number.most); required = true }

-- how many units there are on each budget, where that is asked for
abbrev pub per_rule : Rule
per_rule = record (new_rule units.name) { long = Some units.name; parser = Some (Unsigned units.least units.most) }

-- whether the answer is to be JSON
abbrev pub json_rule : Rule
json_rule = record (new_rule (codes "json")) { long = Some (codes "json"); action = Some SetTrue }

-- a rule that a command has or has not
abbrev pub where_asked : Bool → Rule → List Rule
where_asked asked rule = if asked then rule ∷ [] else []

-- the arguments of a command, in the order of the words
abbrev pub rules_of : CommandForm → List Rule
rules_of form =
    map file_rule (file_names form.files)
    ++ (map number_rule form.numbers ++ (where_asked form.per per_rule ++ where_asked form.json json_rule))

-- a command with its arguments
abbrev pub command_shape : Text → List Rule → Shape
command_shape name rules = record (new_shape name) { rules = rules }

abbrev pub command_of : CommandForm → Shape
command_of form = command_shape form.name (rules_of form)

-- a command with no command below it
abbrev pub alone : Shape → App
alone shape = record { top = shape; subs = [] }

-- a command with further arguments
abbrev pub with_rules : App → List Rule → App
with_rules a rules = record a { top = record a.top { rules = a.top.rules ++ rules } }

-- the program: one of the commands has to be there, and no word asks for help
abbrev pub program_of : List CommandForm → App
program_of commands = record {
  top = record (new_shape (codes "rp"))
      { is_leaf = false; subcommand_required = true; disable_help_flag = true; disable_help_subcommand = true };
  subs = map command_of commands;
}

abbrev pub program : App
program = program_of forms
