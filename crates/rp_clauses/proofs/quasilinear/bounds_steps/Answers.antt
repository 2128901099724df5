use Rattle.std.proofs.Common.{below_more, arith}
use Rattle.std.proofs.lemmas.Int.{ints}
use Rattle.rp_clauses.proofs.quasilinear.bounds_steps.Goals as goal

pub loop-s-preserved : goal.loop-s-preserved
loop-s-preserved c =
    below_more _ _ c.loop-s.invariant (omega (arith, ints, c.if-values-s.false, c.allowed.ensures))
