use Rattle.std.proofs.Common.{◌++◌}
use Rattle.std.proofs.lemmas.Result.{IfOk-equal}
use Rattle.std.specs.Prelude.{codes}
use Rattle.rp_num.specs.Below.{listed}
use Rattle.rp_print.specs.ListText.{fractions_text, line_of, numbers_text}
use Rattle.rp_table.specs.Cost.{cost_of}
use Rattle.rp_table.specs.Tables.{records_of}
use Rattle.rp_fit_report.specs.CyclesText.{cycles_text}
use Rattle.rp_fit_report.specs.LevelsText.{is_exact, level_of, lower, measure_text, range_text, upper}
use Rattle.rp_fit_report.proofs.Lines.{four_texts}
use Rattle.rp_fit_report.proofs.levels.push_levels.Goals as goal

pub returns : goal.returns
returns c =
    let n = records_of c.args.input.now.table.now in
    let cost = cost_of c.args.input.now.table.now in
    let part = c.args.part.now in
    IfOk-equal c.push_cycles.result c.push_cycles.new.out.items _ _ c.push_cycles.ensures
    (rw (c.in_ok-push_numbers.ensures, c.in_ok-push_at.ensures, c.in_ok-push_bounds.ensures, c.as_slice.ensures, c.as_slice-2.ensures)
    (four_texts c.args.out.now.items (range_text (measure_text part.lack) (lower n part) (upper n cost part) (is_exact n cost part))
    (line_of (codes "at " ++ fractions_text (listed n (level_of cost part.at)))) (line_of (codes "ranks " ++ numbers_text part.ranks)) (cycles_text part.den part.walks)))
