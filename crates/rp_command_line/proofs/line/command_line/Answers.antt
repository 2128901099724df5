use Rattle.std.proofs.Common.{◌≡◌, ◌∙◌, Some, ap, sym}
use Rattle.std.specs.Option.{option_map}
use Rattle.clap.specs.Words.{found_of, rows_of}
use Rattle.rp_command_line.specs.CommandLine.{form_of}
use Rattle.rp_command_line.specs.CommandForms.{CommandForm}
use Rattle.rp_command_line.specs.Named.{named_arguments}
use Rattle.rp_command_line.specs.Words.{arguments_in}
use Rattle.rp_command_line.proofs.WordLoops.{given_ranged, given_whole}
use Rattle.rp_command_line.proofs.line.command_line.Goals as goal

pub returns-clause-sized : goal.returns-clause-sized
returns-clause-sized c =
    let form = form_of c.in-Some.command in
    let rows = rows_of (found_of c.args.matches.now) in
    let arguments = named_arguments c.in-Some-2.arguments in
    let read : arguments_in form rows ≡ Some arguments =
    ap (λ (f : CommandForm). arguments_in f rows) (sym c.form.ensures) ∙ sym c.in_ok-arguments.ensures ∙ ap (option_map named_arguments) c.in-Some-2.is in
    record { files = given_whole form rows arguments read; ranges = given_ranged form rows arguments read }
