use Rattle.std.proofs.Common.{arith}
use Rattle.rp_fit_find.proofs.ByCosts.{pump_ready}
use Rattle.rp_fit_find.proofs.by_costs.unlevelled_pump.Goals as goal

pub returns : goal.returns
returns c =
    let input = c.args.input.now in
    pump_ready input.costs.now input.table.now input.same (omega (arith, c.n-n.ensures.count, c.n-n.ensures.few)) c.in_ok-part.part c.in_ok-part.ensures.accepted
