use Rattle.std.proofs.Common.{◌≤◌, [], length, ap, ◌∙◌, arith}
use Rattle.std.specs.List.{list_any}
use Rattle.std.specs.Str.{bytes_eq}
use Rattle.std.proofs.lemmas.List.{take_all, get_or_default}
use Rattle.rp_sheet.proofs.FixedGoods.{found_any, one_more_found}
use Rattle.rp_sheet.proofs.fixed_goods.names_found.Goals as goal

pub loop-name-preserved : goal.loop-name-preserved
loop-name-preserved c = λ name.
    let text = c.as_bytes.ensures.bytes ∙ c.name-item.is ∙ get_or_default c.args.names.now c.loop-name.name-index c.name-item.result [] c.loop-name-test.true in
    one_more_found c.args.names.now c.loop-name.name-index name c.as_bytes.result.now _ _ c.loop-name-test.true text (c.loop-name.invariant name) (c.in_ok-insert.ensures.updates.0 (record { ref_ptr = c.as_bytes.result.ref_ptr; now = name }))

pub returns : goal.returns
returns c = λ name.
    let all : length c.args.names.now ≤ c.loop-name.name-index = omega arith in
    c.loop-name.invariant name ∙ ap (list_any (bytes_eq name)) (take_all c.loop-name.name-index c.args.names.now all) ∙ found_any name c.args.names.now
