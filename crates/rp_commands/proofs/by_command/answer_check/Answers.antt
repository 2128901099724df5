use Rattle.rp_command_line.specs.Named.{named_line}
use Rattle.rp_command_line.specs.declared.commands.Command.TheVariants as commands
use Rattle.rp_commands.specs.Contents as contents
use Rattle.rp_commands.proofs.LoadLemmas.{whole_answered}
use Rattle.rp_commands.proofs.by_command.answer_check.Goals as goal

pub returns : goal.returns
returns g c =
    let at = c.in_ok-table in
    whole_answered (named_line c.args.line.now) g.P.Edition.printed commands.Check (contents.TableAndCertificate at.table at.certificate)
    c.check_answer.result c.whole.result c.requires.asked at.ensures.loads at.ensures.loads.held c.check_answer.ensures c.whole.ensures
