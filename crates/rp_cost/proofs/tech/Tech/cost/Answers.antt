use Rattle.std.proofs.Common.{◌∙◌}
use Rattle.rp_table.proofs.SpendingLaws.{spending-same}
use Rattle.rp_cost.proofs.tech.Tech.cost.Goals as goal

pub returns-clause-exact : goal.returns-clause-exact
returns-clause-exact c =
    c.cost_of_bundle.ensures.exact
    ∙ spending-same _ _ _ _ _ _ c.prices.ensures.all_inputs c.prices.ensures.each c.row.ensures.each
