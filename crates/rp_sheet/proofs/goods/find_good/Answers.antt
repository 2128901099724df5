use Rattle.std.proofs.Common.{◌≡◌, ◌++◌, ap, ◌∙◌}
use Rattle.rp_forms.specs.Texts.{place_of}
use Rattle.rp_sheet.proofs.goods.find_good.Goals as goal

pub returns : goal.returns
returns c =
    let header : c.as_slice.result.now ≡ c.args.mark.now ++ c.args.name.now = c.as_slice.ensures.value ∙ c.in_ok-extend_from_slice.ensures.items ∙ ap (λ mark. mark ++ c.args.name.now) c.in_ok-header.ensures.items in
    c.find.ensures ∙ ap (place_of c.args.columns.now.headers) header
