use Rattle.std.proofs.lemmas.Result.{IfOk-equal}
use Rattle.std.specs.Prelude.{codes}
use Rattle.rp_num.specs.Fraction.{fraction_text}
use Rattle.rp_print.proofs.Texts.{named_line}
use Rattle.rp_print.proofs.mixture.push_share.Goals as goal

pub returns : goal.returns
returns c =
    IfOk-equal c.push_fraction_line.result c.push_fraction_line.new.out.items _ _ c.push_fraction_line.ensures
    (rw c.in_ok-extend_from_slice.ensures.items (named_line c.args.out.now.items c.args.name.now (codes " violated share ") (fraction_text c.args.share)))
