use Rattle.std.proofs.Common.{◌<◌, ◌^◌, arith}
use Rattle.rp_orders.proofs.LoopLemmas.{all_picked, one_more_picked}
use Rattle.rp_orders.proofs.picks.weight_picked.Goals as goal

pub loop-i-preserved : goal.loop-i-preserved
loop-i-preserved c =
    let small : c.from-weight.result < 2 ^ 64 = omega (arith, c.from-weight.ensures, c.type_inv.weights c.cell_picked.result) in
    one_more_picked c.args.seen.now c.args.order.now c.args.weights.now c.loop-i.i c.loop-i.weight c.cell_picked.result c.from-weight.result c.loop-i.invariant
    (omega (arith, c.loop-i-test.true, c.count-i-end.ensures.exact)) c.cell_picked.ensures.exact c.from-weight.ensures small

pub returns : goal.returns
returns c =
    all_picked c.args.seen.now c.args.order.now c.args.weights.now c.loop-i.i c.loop-i.weight c.loop-i.invariant.0
    (omega (arith, c.loop-i-test.false, c.count-i-end.ensures.exact, c.loop-i.auto.i-end))
