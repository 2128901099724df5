use Rattle.std.proofs.Common.{refl}
use Rattle.rp_command_line.specs.Named.{named_line}
use Rattle.rp_command_line.specs.declared.commands.Command.TheVariants as commands
use Rattle.rp_commands.specs.Contents as contents
use Rattle.rp_commands.proofs.LoadLemmas.{nothing_loads, text_answered}
use Rattle.rp_commands.proofs.answer.answer_line.Goals as goal

pub returns-in_ok-load_table-in-Pairs : goal.returns-in_ok-load_table-in-Pairs
returns-in_ok-load_table-in-Pairs g c =
    let at = c.in_ok-load_table-in-Pairs in
    text_answered (named_line c.args.line.now) g.P.Edition.printed commands.Pairs (contents.Table at.field-0)
    c.pairs_text-in-Pairs.result c.done.result c.in-Pairs.is at.ensures.loads at.ensures.loads.held c.pairs_text-in-Pairs.ensures c.done.ensures

pub returns-in_ok-load_table-in-Analyse : goal.returns-in_ok-load_table-in-Analyse
returns-in_ok-load_table-in-Analyse g c =
    let at = c.in_ok-load_table-in-Analyse in
    text_answered (named_line c.args.line.now) g.P.Edition.printed commands.Analyse (contents.Table at.field-0)
    c.analysis_text-in-Analyse.result c.done-in-Analyse.result c.in-Analyse.is at.ensures.loads at.ensures.loads.held c.analysis_text-in-Analyse.ensures c.done-in-Analyse.ensures

pub returns-in_ok-load_table-in-Certify : goal.returns-in_ok-load_table-in-Certify
returns-in_ok-load_table-in-Certify g c =
    let at = c.in_ok-load_table-in-Certify in
    text_answered (named_line c.args.line.now) g.P.Edition.printed commands.Certify (contents.Table at.field-0)
    c.analysis_text-in-Certify-2.result c.done-in-Certify.result c.in-Certify.is at.ensures.loads at.ensures.loads.held c.analysis_text-in-Certify-2.ensures c.done-in-Certify.ensures

pub returns-in_ok-load_table-in-Pump : goal.returns-in_ok-load_table-in-Pump
returns-in_ok-load_table-in-Pump g c =
    let at = c.in_ok-load_table-in-Pump in
    text_answered (named_line c.args.line.now) g.P.Edition.printed commands.Pump (contents.Table at.field-0)
    c.pump_text-in-Pump.result c.done-in-Pump.result c.in-Pump.is at.ensures.loads at.ensures.loads.held c.pump_text-in-Pump.ensures c.done-in-Pump.ensures

pub returns-in_ok-load_table-in-Power : goal.returns-in_ok-load_table-in-Power
returns-in_ok-load_table-in-Power g c =
    let at = c.in_ok-load_table-in-Power in
    text_answered (named_line c.args.line.now) g.P.Edition.printed commands.Power (contents.Table at.field-0)
    c.text_of_power-in-Power.result c.done-in-Power.result c.in-Power.is at.ensures.loads at.ensures.loads.held c.text_of_power-in-Power.ensures c.done-in-Power.ensures

pub returns-in-Trial : goal.returns-in-Trial
returns-in-Trial g c =
    let line = named_line c.args.line.now in
    let loads = nothing_loads g.P.Edition.printed.limits g.D.Desk.bytes g.D.Desk.faults g.D.Desk.calls g.D.Desk.asked c.args.desk.now line (rw c.in-Trial.is refl) c.requires in
    text_answered line g.P.Edition.printed commands.Trial contents.Nothing c.text_of_trial.result c.done-in-Trial.result c.in-Trial.is loads loads.held c.text_of_trial.ensures c.done-in-Trial.ensures
