use Rattle.std.specs.Prelude.{codes}
use Rattle.std.specs.Fmt.{decimal}
use Rattle.rp_print.specs.ListText.{numbers_text}
use Rattle.rp_print.proofs.Texts.{two_numbers}
use Rattle.rp_report.proofs.demand.push_budget.Goals as goal

pub returns : goal.returns
returns c =
    rw (c.in_ok-push.ensures.items, c.in_ok-push_after.ensures, c.in_ok-push_list.ensures, c.in_ok-extend_from_slice.ensures.items)
    (two_numbers c.args.out.now.items (codes "demand prices ") (numbers_text c.args.prices.now) (codes " expenditure ") (decimal c.args.m))
