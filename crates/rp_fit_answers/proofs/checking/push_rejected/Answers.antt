use Rattle.std.specs.Prelude.{codes}
use Rattle.std.specs.Fmt.{decimal}
use Rattle.rp_print.proofs.Texts.{three_numbers}
use Rattle.rp_answers.specs.CheckText.{reason_name}
use Rattle.rp_fit_answers.proofs.checking.push_rejected.Goals as goal

pub returns : goal.returns
returns c =
    rw (c.in_ok-push-2.ensures.items, c.in_ok-push_after-2.ensures, c.in_ok-extend_from_slice.ensures.items, c.name_of.ensures, c.in_ok-push.ensures.items, c.in_ok-push_after.ensures)
    (three_numbers c.args.out.now.items (codes "rejected item ") (decimal c.args.item) (codes " ") (reason_name c.args.reason) (codes " place ") (decimal c.args.place))
