use Rattle.std.proofs.lemmas.Result.{IfOk-equal}
use Rattle.std.specs.Prelude.{codes}
use Rattle.rp_print.proofs.Texts.{index_line}
use Rattle.rp_report.specs.EfficiencyText.{attained_text, level_text}
use Rattle.rp_report.proofs.efficiency.push_index.Goals as goal

pub returns : goal.returns
returns c =
    IfOk-equal c.push_line.result c.push_line.new.out.items _ _ c.push_line.ensures
    (rw (c.in_ok-extend_from_slice-2.ensures.items, c.in_ok-push_level.ensures, c.in_ok-extend_from_slice.ensures.items, c.attained.ensures)
    (index_line c.args.out.now.items (codes "efficiency ") (level_text c.args.evidence.now.level) (codes " attained ") (attained_text c.args.evidence.now.at)))
