use Rattle.std.specs.Fmt.{decimal}
use Rattle.std.specs.Prelude.{codes}
use Rattle.rp_fit_report.proofs.Lines.{five_numbers}
use Rattle.rp_fit_report.proofs.violations.push_pairs.Goals as goal

pub returns : goal.returns
returns c =
    rw (c.in_ok-push.ensures.items, c.in_ok-push_after-5.ensures, c.in_ok-push_after-4.ensures, c.in_ok-push_after-3.ensures, c.in_ok-push_after-2.ensures, c.in_ok-push_after.ensures)
    (five_numbers c.args.out.now.items (codes "violations garp ") (decimal c.args.part.now.garp) (codes " wgarp ") (decimal c.args.part.now.weak_garp) (codes " warp ") (decimal c.args.part.now.warp)
    (codes " sarp ") (decimal c.args.part.now.sarp) (codes " of ") (decimal c.args.pairs))
