use Rattle.std.proofs.Common.{◌∙◌}
use Rattle.rp_patch.proofs.Rows.{row_sum}
use Rattle.rp_patch.proofs.signs.cost_on.Goals as goal

pub returns-clause-exact : goal.returns-clause-exact
returns-clause-exact c =
    c.cost_of_bundle.ensures.exact ∙ rw (c.row.ensures.exact, c.row-2.ensures.exact) (row_sum c.args.budgets.now.prices c.args.choices.now.quantities _ _ _ c.args.k c.args.i (rw (← c.row.ensures.exact) c.row.ensures.all_goods) c.requires.from.same_goods)
