use Rattle.std.proofs.Common.{◌∙◌}
use Rattle.rp_table.proofs.SpendingLaws.{some_bought, spending-same}
use Rattle.rp_table.proofs.costs.cost_at_prices.Goals as goal

pub returns-clause-exact : goal.returns-clause-exact
returns-clause-exact c =
    c.cost_of_bundle.ensures.exact
    ∙ spending-same _ _ _ _ _ _ c.prices.ensures.all_goods c.prices.ensures.each c.bundle.ensures.each

pub returns-clause-positive : goal.returns-clause-positive
returns-clause-positive c =
    some_bought _ _ c.cost_of_bundle.result _ _ c.bundle.ensures.all_goods c.bundle.ensures.each
    (c.goods.ensures.valid.bought c.args.t c.requires.bundle) c.cost_of_bundle.ensures.at_least
