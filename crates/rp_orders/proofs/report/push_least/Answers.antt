use mir.Syntax.{w128}
use Rattle.std.proofs.Common.{rules, FitsSigned}
use Rattle.std.proofs.lemmas.Int.{to_z-of_z}
use Rattle.std.specs.Prelude.{codes}
use Rattle.std.specs.Fmt.{signed_decimal}
use Rattle.rp_print.proofs.Texts.{three_numbers}
use Rattle.rp_orders.specs.Report.{letter_text, menu_text}
use Rattle.rp_orders.proofs.report.push_least.Goals as goal

pub returns : goal.returns
returns c =
    let least = c.args.least in
    let fits : FitsSigned w128 least.sum = search rules in
    rw (c.in_ok-push.ensures.items, c.in_ok-push_menu.ensures, c.in_ok-extend_from_slice.ensures.items, c.in_ok-push_after-2.ensures, c.in_ok-push_after.ensures, to_z-of_z w128 least.sum fits)
    (three_numbers c.args.out.now.items (codes "sums least ") (signed_decimal least.sum) (codes " at ") (letter_text least.letter) (codes " in ") (menu_text least.menu))
