-- A form, what is given to a command, and a line of `src/`, as those that contracts speak of.
use Rattle.std.specs.Prelude.{map}
use Rattle.rp_command_line.specs.CommandLine.{Arguments, Line}
use Rattle.rp_command_line.specs.CommandForms.{CommandForm, NumberArgument}
use Rattle.rp_command_line.specs.declared.commands.CommandForm.{CommandForm as HeldForm}
use Rattle.rp_command_line.specs.declared.commands.NumberArgument.{NumberArgument as HeldNumber}
use Rattle.rp_command_line.specs.declared.arguments.Arguments.{Arguments as HeldArguments}
use Rattle.rp_command_line.specs.declared.line.Line.{Line as HeldLine}

abbrev pub named_number : HeldNumber → NumberArgument
named_number number = record { name = number.name.now; least = number.least; most = number.most }

abbrev pub named_form : HeldForm → CommandForm
named_form form = record {
  name = form.name.now;
  files = form.files;
  numbers = map named_number form.numbers.now;
  per = form.per;
  json = form.json;
  levels = form.levels;
}

abbrev pub named_arguments : HeldArguments → Arguments
named_arguments arguments = record {
  files = map (λ file. file.now) arguments.files.items;
  numbers = arguments.numbers.items;
  per = arguments.per;
  json = arguments.json;
}

abbrev pub named_line : HeldLine → Line
named_line line = record { command = line.command; arguments = named_arguments line.arguments }
