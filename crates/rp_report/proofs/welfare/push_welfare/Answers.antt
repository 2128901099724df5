use Rattle.std.proofs.lemmas.Result.{IfOk-equal}
use Rattle.std.specs.Prelude.{codes}
use Rattle.rp_print.specs.BoundText.{bounds_text, pair_line}
use Rattle.rp_report.specs.WelfareText.{welfare_head}
use Rattle.rp_print.proofs.Texts.{line_in_two}
use Rattle.rp_report.proofs.welfare.push_welfare.Goals as goal

pub returns-in_ok-push-in-Bounds : goal.returns-in_ok-push-in-Bounds
returns-in_ok-push-in-Bounds c =
    rw c.in-Bounds.is
    (IfOk-equal c.push_pair_line.result c.push_pair_line.new.out.items _ _ c.push_pair_line.ensures
    (rw (c.in_ok-push-in-Bounds.ensures.items, c.in_ok-push_bounds-in-Bounds.ensures, c.in_ok-push_head.ensures)
    (line_in_two c.args.out.now.items (welfare_head c.args.prices.now c.args.of) (bounds_text c.in-Bounds.lower c.in-Bounds.upper c.in-Bounds.at) (pair_line (codes "lower ") c.in-Bounds.lower))))
