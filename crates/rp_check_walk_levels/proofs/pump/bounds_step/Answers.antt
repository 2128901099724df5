use Rattle.std.proofs.Common.{arith}
use Rattle.std.proofs.lemmas.Int.{ints}
use Rattle.rp_check_walk_levels.proofs.pump.bounds_step.Goals as goal

pub returns : goal.returns
returns c = (
  λ h other weak. let l = c.at_most.ensures.0 h in omega (arith, ints, l, c.allowed.ensures),
  λ bounds. let l = bounds c.if-s-t.false (c.is_weak.ensures.0 c.if-not-is_weak.false) in c.at_most.ensures.1 (omega (arith, ints, l, c.allowed.ensures)),
)
