use Rattle.std.proofs.Common.{◌≡◌, ◌<◌, [], length, slice_index, get_or, ap, ◌∙◌, arith}
use Rattle.std.proofs.lemmas.List.{get_or_default}
use Rattle.rp_forms.specs.Texts.{text_at}
use Rattle.rp_sheet.specs.Sheets.{column_of}
use Rattle.rp_num.proofs.BelowLemmas.{length-listed, get-listed}
use Rattle.rp_sheet.proofs.RowMore.{rows-more}
use Rattle.rp_sheet.proofs.numbers.numbers_under.Goals as goal

pub numbers_at-requires : goal.numbers_at-requires
numbers_at-requires c = λ g place.
    let places = c.as_slice-in-loop-row.ensures.value ∙ c.in_ok-places.ensures in
    let inside : g < length c.args.names.now = omega (arith, ap length places, length-listed (column_of c.args.mark.now c.args.columns.now.headers c.args.names.now) (length c.args.names.now)) in
    let row = c.as_slice.ensures ∙ c.row-item.is ∙ get_or_default c.args.sizes.now c.loop-row.row-index c.row-item.result [] c.loop-row-test.true in
    let at_column : slice_index c.as_slice-in-loop-row.result.now g ≡ column_of c.args.mark.now c.args.columns.now.headers c.args.names.now g = ap (λ xs. get_or xs g 0) places ∙ get-listed (column_of c.args.mark.now c.args.columns.now.headers c.args.names.now) (length c.args.names.now) g 0 inside in
    rw (at_column, row) (c.requires c.loop-row.row-index g c.loop-row-test.true inside)

pub loop-row-preserved : goal.loop-row-preserved
loop-row-preserved c =
    let places = c.as_slice-in-loop-row.ensures.value ∙ c.in_ok-places.ensures in
    let row = c.as_slice.ensures ∙ c.row-item.is ∙ get_or_default c.args.sizes.now c.loop-row.row-index c.row-item.result [] c.loop-row-test.true in
    let chosen = c.as_slice-in-loop-row-2.ensures.value ∙ c.in_ok-chosen.ensures in
    c.in_ok-extend_from_slice.ensures.items
    ∙ rows-more (text_at c.args.sizes.now) (column_of c.args.mark.now c.args.columns.now.headers c.args.names.now) (length c.args.names.now) c.loop-row.row-index c.loop-row.numbers.items c.as_slice-in-loop-row-2.result.now c.as_slice.result.now c.as_slice-in-loop-row.result.now c.loop-row.invariant row places chosen
