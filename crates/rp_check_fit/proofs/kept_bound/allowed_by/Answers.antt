use Rattle.std.proofs.Common.{arith, refl}
use Rattle.rp_check_fit.proofs.GroupSums.{allowed_more}
use Rattle.rp_check_fit.proofs.kept_bound.allowed_by.Goals as goal

pub loop-k-preserved : goal.loop-k-preserved
loop-k-preserved c =
    allowed_more c.args.groups.now c.loop-k.k c.loop-k.sum c.weighted-sum.result _ (omega arith) c.weighted-sum.ensures.value c.weighted-sum.ensures.small
    c.loop-k.invariant refl
