use Rattle.std.proofs.Common.{◌++◌, ◌∙◌, ap}
use Rattle.std.proofs.lemmas.Result.{IfOk-equal}
use Rattle.std.specs.Prelude.{codes}
use Rattle.std.specs.Fmt.{decimal}
use Rattle.rp_print.specs.MixtureText.{parts_text}
use Rattle.rp_print.proofs.Texts.{line_and_more, named_line}
use Rattle.rp_print.proofs.mixture.push_mixture.Goals as goal

pub returns : goal.returns
returns g c =
    let old = c.args.out.now.items in
    let name = c.args.name.now in
    let over = decimal c.args.den in
    let parts = parts_text g.P.Print.text c.args.parts.now in
    IfOk-equal c.push_parts.result c.push_parts.new.out.items _ _ c.push_parts.ensures
    (rw (c.in_ok-push_number_line.ensures, c.in_ok-extend_from_slice.ensures.items)
    (ap (λ text. text ++ parts) (named_line old name (codes " mixture over ") over) ∙ line_and_more old (name ++ codes " mixture over " ++ over) parts))
