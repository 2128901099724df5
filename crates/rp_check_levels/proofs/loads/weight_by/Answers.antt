use Rattle.std.proofs.Common.{arith, refl}
use Rattle.rp_check_levels.proofs.Sums.{weight_more}
use Rattle.rp_check_levels.specs.Loads.{loads}
use Rattle.rp_table.specs.Cost.{cost_of}
use Rattle.rp_check_levels.proofs.loads.weight_by.Goals as goal

pub loop-k-preserved : goal.loop-k-preserved
loop-k-preserved c =
    weight_more (loads c.args.measure (cost_of c.args.input.now.table.now) c.args.s c.args.t) c.args.walks.now c.loop-k.k c.loop-k.weight c.weight_at-weight.result _ (omega arith)
    c.weight_at-weight.ensures.value c.weight_at-weight.ensures.small c.loop-k.invariant refl
