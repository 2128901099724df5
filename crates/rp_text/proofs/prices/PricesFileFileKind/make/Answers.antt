use Rattle.std.proofs.Common.{◌∙◌}
use Rattle.rp_text.proofs.PriceFacts.{price_limits, prices_fit, prices_made}
use Rattle.rp_text.proofs.prices.PricesFileFileKind.make.Goals as goal

pub numbers_under-requires : goal.numbers_under-requires
numbers_under-requires c =
    let valid = c.goods-goods.ensures.valid in
    price_limits c.args.self.now.with_m c.requires.1 valid.some_goods valid.few_goods c.names-names.ensures c.as_slice-sizes.ensures.value

pub make-requires : goal.make-requires
make-requires c =
    let valid = c.goods-goods.ensures.valid in
    (prices_made c.args.self.now.with_m c.requires.1 valid.some_goods valid.few_goods c.names-names.ensures c.as_slice-sizes.ensures.value _ _ _ c.goods-goods.ensures.count c.in_ok-prices.ensures c.in_ok-m.ensures).0

pub returns-clause-exact : goal.returns-clause-exact
returns-clause-exact c =
    let valid = c.goods-goods.ensures.valid in
    c.make.ensures ∙ (prices_made c.args.self.now.with_m c.requires.1 valid.some_goods valid.few_goods c.names-names.ensures c.as_slice-sizes.ensures.value _ _ _ c.goods-goods.ensures.count c.in_ok-prices.ensures c.in_ok-m.ensures).1

pub returns-clause-fitting : goal.returns-clause-fitting
returns-clause-fitting c =
    let valid = c.goods-goods.ensures.valid in
    let made = prices_made c.args.self.now.with_m c.requires.1 valid.some_goods valid.few_goods c.names-names.ensures c.as_slice-sizes.ensures.value _ _ _ c.goods-goods.ensures.count c.in_ok-prices.ensures c.in_ok-m.ensures in
    prices_fit c.args.self.now.with_m c.requires.1 valid.some_goods valid.few_goods c.names-names.ensures c.as_slice-sizes.ensures.value c.make.result (c.make.ensures ∙ made.1)
