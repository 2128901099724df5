use Rattle.std.proofs.Common.{◌≡◌, ◌∙◌, ap, map}
use Rattle.std.specs.Borrow.{Bor}
use Rattle.clap.specs.Simple.{App, app_of, new_app}
use Rattle.clap.specs.Walk.{Rule, Text, rule_of}
use Rattle.rp_command_line.specs.Commands.{file_rule, json_rule, number_rule, per_rule, where_asked, with_rules}
use Rattle.rp_command_line.specs.CommandLine.{file_names}
use Rattle.rp_command_line.specs.Named.{named_form, named_number}
use Rattle.rp_command_line.specs.declared.commands.NumberArgument.{NumberArgument}
use Rattle.rp_command_line.proofs.WordLoops.{map_twice, rules_whole}
use Rattle.rp_command_line.proofs.parser.command_of.Goals as goal

pub returns-clause-shape : goal.returns-clause-shape
returns-clause-shape c =
    let form = named_form c.args.form.now in
    let files = map file_rule (file_names form.files) in
    let numbers = map number_rule form.numbers in
    let per = where_asked form.per per_rule in
    let json = where_asked form.json json_rule in
    let start = new_app form.name in
    let one : app_of c.in_ok-command.command ≡ with_rules start files =
    c.in_ok-command.ensures.shape ∙ ap (λ (a : App). with_rules a (map (λ (file : Bor Text). file_rule file.now) c.names.result.now)) c.new-command.ensures.app
    ∙ ap (with_rules start) (map_twice file_rule (λ (file : Bor Text). file.now) c.names.result.now ∙ ap (map file_rule) c.names.ensures) in
    let two : app_of c.in_ok-command-2.command ≡ with_rules (with_rules start files) numbers =
    c.in_ok-command-2.ensures.shape ∙ ap (λ (a : App). with_rules a (map (λ (number : NumberArgument). number_rule (named_number number)) c.args.form.now.numbers.now)) one
    ∙ ap (with_rules (with_rules start files)) (map_twice number_rule named_number c.args.form.now.numbers.now) in
    let three : app_of c.in_ok-command-3.command ≡ with_rules (with_rules (with_rules start files) numbers) per =
    c.in_ok-command-3.ensures.shape ∙ ap (λ (a : App). with_rules a (where_asked form.per (rule_of c.per_argument.result))) two
    ∙ ap (λ (rule : Rule). with_rules (with_rules (with_rules start files) numbers) (where_asked form.per rule)) c.per_argument.ensures.rule in
    c.in_ok-command-4.ensures.shape ∙ ap (λ (a : App). with_rules a (where_asked form.json (rule_of c.json_argument.result))) three
    ∙ ap (λ (rule : Rule). with_rules (with_rules (with_rules (with_rules start files) numbers) per) (where_asked form.json rule)) c.json_argument.ensures.rule
    ∙ rules_whole start files numbers per json
