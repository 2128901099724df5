use Rattle.std.proofs.Common.{◌∙◌}
use Rattle.rp_text.proofs.BundleFacts.{bundle_limits, bundles_made}
use Rattle.rp_text.proofs.bundles.BundlesFileFileKind.make.Goals as goal

pub numbers_under-requires : goal.numbers_under-requires
numbers_under-requires c =
    let valid = c.goods-goods.ensures.valid in
    bundle_limits c.requires.1 valid.some_goods valid.few_goods c.names-names.ensures c.as_slice-sizes.ensures.value

pub make-requires : goal.make-requires
make-requires c =
    let valid = c.goods-goods.ensures.valid in
    (bundles_made c.requires.1 valid.some_goods valid.few_goods c.names-names.ensures c.as_slice-sizes.ensures.value _ _ c.goods-goods.ensures.count c.in_ok-quantities.ensures).0

pub returns-clause-exact : goal.returns-clause-exact
returns-clause-exact c =
    let valid = c.goods-goods.ensures.valid in
    c.make.ensures ∙ (bundles_made c.requires.1 valid.some_goods valid.few_goods c.names-names.ensures c.as_slice-sizes.ensures.value _ _ c.goods-goods.ensures.count c.in_ok-quantities.ensures).1
