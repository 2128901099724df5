use Rattle.std.proofs.Common.{◌∙◌, List, ap, map}
use Rattle.std.proofs.lemmas.List.{take_all}
use Rattle.clap.specs.Simple.{App, app_of, app_of_fields}
use Rattle.rp_command_line.specs.CommandLine.{form_of}
use Rattle.rp_command_line.specs.Commands.{alone, command_of}
use Rattle.rp_command_line.specs.CommandForms.{CommandForm}
use Rattle.rp_command_line.specs.declared.commands.Command.{Command}
use Rattle.rp_command_line.specs.declared.commands.Command.TheVariants.{Pairs}
use Rattle.rp_command_line.proofs.WordLemmas.{needing, without_help_flag, without_help_command}
use Rattle.rp_command_line.proofs.WordLoops.{command_more, program_so_far}
use Rattle.rp_command_line.proofs.parser.program.Goals as goal

pub loop-command-init : goal.loop-command-init
loop-command-init c =
    ap app_of_fields c.disable_help_subcommand-program.ensures
    ∙ ap without_help_command (ap app_of_fields c.disable_help_flag.ensures)
    ∙ ap (λ (a : App). without_help_command (without_help_flag a)) (ap app_of_fields c.subcommand_required.ensures)
    ∙ ap (λ (a : App). without_help_command (without_help_flag (needing a))) c.new.ensures.app

pub loop-command-preserved : goal.loop-command-preserved
loop-command-preserved c =
    command_more form_of c.commands-command-items.result.now c.loop-command.command-index Pairs
    (app_of c.loop-command.program) (app_of c.in_ok-program.program) (app_of c.in_ok-command_of.field-0) c.loop-command-test.true c.loop-command.invariant
    (c.in_ok-command_of.ensures.shape ∙ ap (λ (form : CommandForm). alone (command_of form)) c.form.ensures)
    (c.in_ok-program.ensures.shape c.in_ok-command_of.ensures.local)

pub returns : goal.returns
returns c =
    c.loop-command.invariant ∙ ap (λ (some : List Command). program_so_far (map form_of some)) (take_all c.loop-command.command-index c.commands-command-items.result.now c.loop-command-test.false) ∙ ap (λ (some : List Command). program_so_far (map form_of some)) c.commands-command-items.ensures
