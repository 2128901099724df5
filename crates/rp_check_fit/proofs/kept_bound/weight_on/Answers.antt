use Rattle.std.proofs.Common.{arith, refl}
use Rattle.rp_check_fit.proofs.GroupSums.{weight_more}
use Rattle.rp_check_fit.proofs.kept_bound.weight_on.Goals as goal

pub loop-k-preserved : goal.loop-k-preserved
loop-k-preserved c =
    weight_more c.args.groups.now c.args.s c.loop-k.k c.loop-k.weight c.weight_at-weight.result _ (omega arith) c.weight_at-weight.ensures.value c.weight_at-weight.ensures.small
    c.loop-k.invariant refl
