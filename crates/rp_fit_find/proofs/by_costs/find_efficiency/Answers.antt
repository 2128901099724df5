use Rattle.std.proofs.Common.{arith}
use Rattle.rp_fit_find.proofs.ByCosts.{efficiency_ready}
use Rattle.rp_fit_find.proofs.by_costs.find_efficiency.Goals as goal

pub returns : goal.returns
returns c =
    let input = c.args.input.now in
    efficiency_ready input.costs.now input.table.now input.same (omega (arith, c.n-n.ensures.count, c.n-n.ensures.few)) c.in_ok-evidence.evidence c.in_ok-evidence.ensures.proves
    c.in_ok-evidence.ensures.given
