use Rattle.std.proofs.lemmas.Result.{IfOk-equal}
use Rattle.std.specs.Prelude.{codes}
use Rattle.std.specs.Fmt.{decimal}
use Rattle.rp_print.specs.ListText.{numbers_text}
use Rattle.rp_print.proofs.Texts.{two_words}
use Rattle.rp_cost.proofs.report.push_asked.Goals as goal

pub returns : goal.returns
returns c =
    IfOk-equal c.push_after.result c.push_after.new.out.items _ _ c.push_after.ensures
    (rw (c.in_ok-push_list.ensures, c.in_ok-extend_from_slice.ensures.items)
    (two_words c.args.out.now.items (codes "bounds prices ") (numbers_text c.args.prices.now) (codes " output ") (decimal c.args.y)))
