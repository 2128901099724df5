use Rattle.std.proofs.Common.{get_or}
use Rattle.rp_walk.specs.ExactTotal.{SameTotal}
use Rattle.rp_walk.specs.Walk.{prefix_total}
use Rattle.rp_walk.proofs.cycle.total_at.Given as goal

abbrev pub invariant-loop-i : goal.invariant-loop-i
invariant-loop-i g l =
    SameTotal (prefix_total (g.T.Total.rule l.total) (λ m. get_or l.walk m 0) l.i) (g.T.Total.exact l.value)
