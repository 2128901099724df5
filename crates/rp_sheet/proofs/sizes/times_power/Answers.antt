use Rattle.std.proofs.Common.{◌<◌, ◌*◌, ◌^◌, arith}
use Rattle.rp_sheet.proofs.SizeLemmas.{past, one_more}
use Rattle.rp_sheet.proofs.sizes.times_power.Goals as goal

pub returns-then-size-limit : goal.returns-then-size-limit
returns-then-size-limit c =
    let more : c.args.limit < c.args.units * 10 ^ c.loop.counter = rw (← c.loop.invariant) c.if-size-limit.true in
    past c.args.units c.args.limit c.loop.counter c.args.power (omega arith) more

pub loop-preserved : goal.loop-preserved
loop-preserved c = one_more c.args.units c.loop.size c.loop.counter c.loop.invariant
