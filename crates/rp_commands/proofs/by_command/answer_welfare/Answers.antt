use Rattle.rp_command_line.specs.Named.{named_line}
use Rattle.rp_command_line.specs.declared.commands.Command.TheVariants as commands
use Rattle.rp_commands.specs.Contents as contents
use Rattle.rp_commands.proofs.LoadLemmas.{text_answered}
use Rattle.rp_commands.proofs.by_command.answer_welfare.Goals as goal

pub returns : goal.returns
returns g c =
    let at = c.in_ok-table in
    text_answered (named_line c.args.line.now) g.P.Edition.printed commands.Welfare (contents.TableAndPrices at.table at.new)
    c.welfare_text.result c.done.result c.requires.asked at.ensures.loads at.ensures.loads.held c.welfare_text.ensures c.done.ensures
