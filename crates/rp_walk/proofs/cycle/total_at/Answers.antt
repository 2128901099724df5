use Rattle.std.proofs.Common.{◌+◌, arith, get_or}
use Rattle.rp_walk.proofs.Traces.{step_fits, prefix_more}
use Rattle.rp_walk.proofs.cycle.total_at.Goals as goal

pub unreachable-requires : goal.unreachable-requires
unreachable-requires g c =
    let w = g.T.Total.rule c.args.total.now in
    let walk = c.args.walk.now in
    let i = c.loop-i.i in
    step_fits w (g.met.T.Total.keeps_order c.args.total.now) g.T.Total.fits g.met.T.Total.fits_alike (λ m. get_or walk m 0) i (i + 1) (g.T.Total.exact c.loop-i.value)
    (omega arith) c.loop-i.invariant (c.requires.within i 0 (omega arith)) (c.requires.within (i + 1) 0 (omega arith))
    (c.requires.fit i (omega arith)) (c.step.ensures.wide.0 (let e = c.in-Err.is in cc))

pub loop-i-preserved : goal.loop-i-preserved
loop-i-preserved g c =
    let w = g.T.Total.rule c.args.total.now in
    let walk = c.args.walk.now in
    let i = c.loop-i.i in
    prefix_more w (g.met.T.Total.keeps_order c.args.total.now) (λ m. get_or walk m 0) i (i + 1) (g.T.Total.exact c.loop-i.value) (g.T.Total.exact c.in-Ok.next)
    (omega arith) c.loop-i.invariant (c.requires.within i 0 (omega arith)) (c.requires.within (i + 1) 0 (omega arith))
    c.in-Ok.ensures.value
