use Rattle.std.proofs.Common.{length}
use Rattle.std.specs.Prelude.{codes}
use Rattle.std.specs.Fmt.{decimal}
use Rattle.rp_orders.proofs.ReportLemmas.{five_numbers}
use Rattle.rp_orders.proofs.report.push_counts.Goals as goal

pub returns : goal.returns
returns c =
    rw (c.in_ok-push.ensures.items, c.in_ok-push_after-5.ensures, c.in_ok-push_after-4.ensures, c.in_ok-push_after-3.ensures, c.in_ok-push_after-2.ensures, c.in_ok-push_after.ensures, c.cells.ensures.exact, c.count.ensures.exact, c.letters.ensures.exact)
    (five_numbers c.args.out.now.items (codes "alternatives ") (decimal c.args.seen.now.letters) (codes " menus ") (decimal (length c.args.seen.now.menus)) (codes " cells ") (decimal (length c.args.seen.now.groups)) (codes " orders ") (decimal c.args.orders) (codes " total ") (decimal c.args.total))
