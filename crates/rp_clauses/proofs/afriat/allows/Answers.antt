use Rattle.std.proofs.Common.{below_more, arith}
use Rattle.std.proofs.lemmas.Int.{ints}
use Rattle.rp_clauses.proofs.afriat.allows.Goals as goal

pub loop-t-preserved : goal.loop-t-preserved
loop-t-preserved c = below_more _ _ c.loop-t.invariant (omega (arith, ints, c.allowed.ensures, c.if-utility-t.false))
