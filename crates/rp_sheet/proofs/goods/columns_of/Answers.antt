use Rattle.std.proofs.Common.{◌++◌, [], ap, ◌∙◌}
use Rattle.std.specs.Prelude.{unwrap_or}
use Rattle.std.proofs.lemmas.List.{get_or_default}
use Rattle.rp_forms.specs.Texts.{place_of}
use Rattle.rp_sheet.specs.Sheets.{column_of}
use Rattle.rp_num.proofs.BelowLemmas.{listed-more}
use Rattle.rp_sheet.proofs.goods.columns_of.Goals as goal

pub loop-name-preserved : goal.loop-name-preserved
loop-name-preserved c =
    let name = c.as_bytes.ensures.bytes ∙ c.name-item.is ∙ get_or_default c.args.names.now c.loop-name.name-index c.name-item.result [] c.loop-name-test.true in
    let here = c.unwrap_or.ensures ∙ ap (λ place. unwrap_or place 0) (c.in_ok-find_good.ensures ∙ ap (λ name. place_of c.args.columns.now.headers (c.args.mark.now ++ name)) name) in
    c.in_ok-push.ensures.items ∙ listed-more (column_of c.args.mark.now c.args.columns.now.headers c.args.names.now) c.loop-name.name-index c.unwrap_or.result c.loop-name.found.items c.loop-name.invariant here
