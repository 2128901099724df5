use Rattle.std.specs.Prelude.{codes}
use Rattle.rp_print.specs.ListText.{ordinal_text}
use Rattle.rp_print.proofs.Texts.{one_number}
use Rattle.rp_report.proofs.afriat.push_withheld.Goals as goal

pub returns : goal.returns
returns c =
    rw (c.in_ok-push.ensures.items, c.in_ok-push_after.ensures)
    (one_number c.args.out.now.items (codes "afriat withheld at ") (ordinal_text c.args.at))
