use Rattle.std.proofs.Common.{◌∙◌}
use Rattle.rp_num.proofs.BelowLemmas.{listed-more}
use Rattle.rp_power.specs.InnerSpent.{own_cost_among}
use Rattle.rp_power.proofs.contradiction.fill_own_costs.Goals as goal

pub loop-t-preserved : goal.loop-t-preserved
loop-t-preserved c =
    c.in_ok-push.ensures.items
    ∙ listed-more (own_cost_among c.args.table.now c.args.quantities.now) c.loop-t.t c.drawn_cost.result c.loop-t.own.items c.loop-t.invariant c.drawn_cost.ensures
