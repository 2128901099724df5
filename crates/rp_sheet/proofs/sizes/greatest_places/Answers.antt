use Rattle.std.proofs.Common.{◌≡◌, if◌then◌else◌, [], length, max, get_or, arith, ap, ◌∙◌}
use Rattle.std.proofs.lemmas.List.{get_or_default}
use Rattle.std.proofs.lemmas.Grind.{common_steps}
use Rattle.rp_num.specs.Below.{greatest_below}
use Rattle.rp_forms.specs.Columns.{role_at}
use Rattle.rp_sheet.specs.Fields.{nothing}
use Rattle.rp_sheet.specs.Sizes.{figure_at, greatest_places}
use Rattle.rp_forms.specs.Columns.{shares_scale}
use Rattle.rp_sheet.proofs.SizeLemmas.{greatest_more}
use Rattle.rp_sheet.proofs.sizes.greatest_places.Goals as goal

pub loop-row-preserved : goal.loop-row-preserved
loop-row-preserved c =
    let row = c.as_slice.ensures ∙ c.row-item.is ∙ get_or_default c.args.figures.now c.loop-row.row-index c.row-item.result [] c.loop-row-test.true in
    let here = c.greatest_in.ensures ∙ ap (λ row. greatest_below (length c.args.columns.now.headers) (λ k. if shares_scale c.args.role (role_at c.args.columns.now.form.marks c.args.columns.now.headers k) then (get_or row k nothing).places else 0)) row in
    let most : c.max-greatest.result ≡ max c.loop-row.greatest c.greatest_in.result = grind (arith, common_steps) in
    greatest_more (λ t. greatest_below (length c.args.columns.now.headers) (λ k. if shares_scale c.args.role (role_at c.args.columns.now.form.marks c.args.columns.now.headers k) then (figure_at c.args.figures.now t k).places else 0)) c.loop-row.row-index c.loop-row.greatest c.greatest_in.result c.max-greatest.result c.loop-row.invariant here most

pub returns : goal.returns
unfolding greatest_places
returns c =
    let all : c.loop-row.row-index ≡ length c.args.figures.now = omega arith in
    rw (← all) c.loop-row.invariant
