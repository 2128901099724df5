use Rattle.std.proofs.Common.{◌∙◌}
use Rattle.rp_cost.proofs.AskedFacts.{asked_made, asked_output_limits, asked_price_limits, asked_prices}
use Rattle.rp_cost.proofs.asked_file.AskedFileFileKind.make.Goals as goal

pub numbers_under-requires : goal.numbers_under-requires
numbers_under-requires c =
    let valid = c.inputs-inputs.ensures.valid.inputs in
    asked_price_limits c.requires.1 valid.some_goods valid.few_goods c.names-names.ensures c.as_slice-sizes.ensures.value

pub outputs-requires : goal.outputs-requires
outputs-requires c =
    let valid = c.inputs-inputs.ensures.valid.inputs in
    asked_output_limits c.requires.1 valid.some_goods valid.few_goods c.names-names.ensures c.as_slice-sizes.ensures.value

pub make-requires : goal.make-requires
make-requires c =
    let valid = c.inputs-inputs.ensures.valid.inputs in
    asked_prices c.requires.1 valid.some_goods valid.few_goods c.names-names.ensures c.as_slice-sizes.ensures.value _ _ _ c.inputs-inputs.ensures.count c.in_ok-prices.ensures c.new.ensures.items

pub make-requires-2 : goal.make-requires-2
make-requires-2 c =
    let valid = c.inputs-inputs.ensures.valid.inputs in
    (asked_made c.requires.1 valid.some_goods valid.few_goods c.names-names.ensures c.as_slice-sizes.ensures.value _ _ _ _ _
    c.inputs-inputs.ensures.count c.in_ok-prices.ensures c.new.ensures.items c.make.ensures c.in_ok-outputs.ensures).0

pub returns-clause-exact : goal.returns-clause-exact
returns-clause-exact c =
    let valid = c.inputs-inputs.ensures.valid.inputs in
    let made = asked_made c.requires.1 valid.some_goods valid.few_goods c.names-names.ensures c.as_slice-sizes.ensures.value _ _ _ _ _
    c.inputs-inputs.ensures.count c.in_ok-prices.ensures c.new.ensures.items c.make.ensures c.in_ok-outputs.ensures in
    c.make-2.ensures ∙ made.1
