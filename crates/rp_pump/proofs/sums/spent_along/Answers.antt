use Rattle.std.proofs.Common.{arith, refl}
use Rattle.rp_table.specs.Cost.{cost_at}
use Rattle.rp_pump.proofs.SummedWalks.{one_entry_spent, spent_kept}
use Rattle.rp_pump.proofs.sums.spent_along.Goals as goal

pub loop-k-init : goal.loop-k-init
loop-k-init c = (one_entry_spent (cost_at c.args.costs.now) c.args.walk.now, omega arith)

pub loop-k-preserved : goal.loop-k-preserved
loop-k-preserved c =
    spent_kept (cost_at c.args.costs.now) c.args.walk.now c.loop-k.k c.loop-k.sum c.cost-sum.result _
    (omega arith) c.loop-k.invariant c.cost-sum.ensures.exact c.cost-sum.ensures.below refl
