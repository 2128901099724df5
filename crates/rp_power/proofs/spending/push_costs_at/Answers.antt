use Rattle.rp_power.specs.InnerSpent.{cost_among}
use Rattle.rp_power.proofs.SpentLemmas.{appended_more}
use Rattle.rp_power.proofs.spending.push_costs_at.Goals as goal

pub loop-t-preserved : goal.loop-t-preserved
loop-t-preserved c =
    let table = c.args.table.now in
    appended_more (cost_among table c.args.quantities.now c.args.s) c.loop-t.t c.drawn_cost.result c.args.costs.now.items c.loop-t.costs.items c.push.new.self.items c.loop-t.invariant c.drawn_cost.ensures c.in_ok-push.ensures.items
