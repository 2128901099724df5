use Rattle.std.proofs.Common.{◌≡◌, None, add-one, ap, subst, sym, take, ◌∙◌}
use Rattle.std.specs.List.{find}
use Rattle.std.specs.Str.{bytes_eq}
use Rattle.rp_command_line.specs.CommandLine.{form_of}
use Rattle.rp_command_line.specs.CommandForms.{CommandForm}
use Rattle.rp_command_line.specs.declared.commands.Command.{Command}
use Rattle.rp_command_line.specs.declared.commands.Command.TheVariants.{Pairs}
use Rattle.rp_command_line.proofs.CommandLemmas.{none_more}
use Rattle.rp_command_line.proofs.commands.command_named.Goals as goal

pub loop-command-preserved : goal.loop-command-preserved
loop-command-preserved c =
    let i = c.loop-command.command-index in
    let all = c.commands-command-items.result.now in
    let test = λ (command : Command). bytes_eq c.args.name.now (form_of command).name in
    let fails = ap (λ (form : CommandForm). bytes_eq c.args.name.now form.name) (sym c.form.ensures) ∙ sym c.eq.ensures ∙ c.if-eq.false in
    subst (λ n. find test (take n all) ≡ None) (sym (add-one i)) (none_more test all i Pairs c.loop-command.invariant fails c.loop-command-test.true)
