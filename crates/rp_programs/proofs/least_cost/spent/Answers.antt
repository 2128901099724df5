use Rattle.std.proofs.Common.{◌∙◌}
use Rattle.rp_table.proofs.SpendingLaws.{spending-same}
use Rattle.rp_programs.proofs.least_cost.spent.Goals as goal

pub returns-clause-exact : goal.returns-clause-exact
returns-clause-exact c =
    c.cost_of_bundle.ensures.exact
    ∙ spending-same _ _ _ _ _ _ c.prices.ensures.all_goods c.prices.ensures.each c.bundle.ensures.each
