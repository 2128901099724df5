use Rattle.std.proofs.Common.{◌++◌}
use Rattle.std.proofs.lemmas.Result.{IfOk-equal}
use Rattle.std.specs.Fmt.{decimal}
use Rattle.std.specs.List.{flat_map}
use Rattle.std.specs.Prelude.{codes}
use Rattle.rp_print.proofs.Texts.{line_and_more}
use Rattle.rp_fit_report.specs.CyclesText.{cycle_text}
use Rattle.rp_fit_report.proofs.cycles.push_cycles.Goals as goal

pub returns : goal.returns
returns c =
    IfOk-equal c.push_each_cycle.result c.push_each_cycle.new.out.items _ _ c.push_each_cycle.ensures
    (rw c.in_ok-push_number_line.ensures (line_and_more c.args.out.now.items (codes "cycles over " ++ decimal c.args.den) (flat_map cycle_text c.args.walks.now)))
