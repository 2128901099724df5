use Rattle.std.proofs.Common.{sym, ◌∙◌}
use Rattle.rp_panel_run.proofs.CauseLemmas.{fault_of_records, not_memory, opened}
use Rattle.rp_panel_run.proofs.answer.open_panel.Goals as goal

pub returns-in-Ok-clause-denoted : goal.returns-in-Ok-clause-denoted
returns-in-Ok-clause-denoted c =
    opened c.args.question.now c.args.records.now _ _ c.in-Ok.panel c.id_name.ensures c.kept.ensures c.in-Ok.ensures.denoted

pub returns-in-Err-2-clause-refused : goal.returns-in-Err-2-clause-refused
returns-in-Err-2-clause-refused c =
    fault_of_records c.args.question.now c.args.records.now _ _ c.in-Err.fault _ c.refused_for.result c.id_name.ensures c.kept.ensures c.file.ensures
    (c.in-Err.ensures.refused (not_memory c.in-Err.fault (sym c.is_memory.ensures ∙ c.if-is_memory.false))) c.refused_for.ensures
