use Rattle.std.specs.Prelude.{codes}
use Rattle.std.specs.Fmt.{decimal}
use Rattle.rp_print.specs.ListText.{ordinal_text}
use Rattle.rp_print.proofs.Texts.{three_numbers}
use Rattle.rp_report.proofs.homothetic.push_withheld.Goals as goal

pub returns : goal.returns
returns c =
    rw (c.in_ok-push.ensures.items, c.in_ok-push_after-3.ensures, c.in_ok-push_after-2.ensures, c.in_ok-push_after.ensures)
    (three_numbers c.args.out.now.items (codes "homothetic withheld steps ") (decimal c.args.steps) (codes " from ") (ordinal_text c.args.from) (codes " to ") (ordinal_text c.args.to))
