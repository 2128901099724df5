use Rattle.std.proofs.Common.{arith, refl}
use Rattle.rp_check_walk_levels.proofs.StepSums.{sum_kept}
use Rattle.rp_table.specs.Cost.{cost_of}
use Rattle.rp_check_walk_levels.proofs.sums.spent_along.Goals as goal

pub loop-k-preserved : goal.loop-k-preserved
loop-k-preserved c =
    sum_kept (λ t s. cost_of c.args.input.now.table.now t t) c.args.walk.now c.loop-k.k c.loop-k.sum c.cost-sum.result _ (omega arith) c.loop-k.invariant c.cost-sum.ensures.exact
    (omega (arith, c.cost-sum.ensures.below)) refl
