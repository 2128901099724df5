use Rattle.std.proofs.Common.{arith}
use Rattle.rp_table.specs.Cost.{cost_of}
use Rattle.rp_clauses.proofs.WalkSums.{sum_kept}
use Rattle.rp_clauses.proofs.quasilinear.sum_of_walk.Goals as goal

pub loop-k-preserved : goal.loop-k-preserved
loop-k-preserved c =
    sum_kept (cost_of c.args.input.now.table.now) c.args.walk.now c.loop-k.k _ c.added.result c.plus-sum.result
    (omega arith) c.loop-k.invariant c.added.ensures.value c.added.ensures.small
    c.plus-sum.type_inv c.plus-sum.ensures c.added.type_inv
