use Rattle.std.proofs.Common.{below_more}
use Rattle.rp_fit.specs.PumpEvidence.{BoundsStep}
use Rattle.rp_table.specs.Cost.{cost_of}
use Rattle.rp_check_walk_levels.proofs.pump.bounds_from.Goals as goal

pub loop-t-preserved : goal.loop-t-preserved
loop-t-preserved c =
    below_more (BoundsStep (cost_of c.args.input.now.table.now) c.args.num c.args.den c.args.values.now c.args.s) c.loop-t.t c.loop-t.invariant (c.bounds_step.ensures.0 c.if-not-bounds_step.false)
