use Rattle.rp_generated.specs.InnerLight.{AreOrdered}
use Rattle.rp_generated.proofs.prices.patches_on.Given as goal

abbrev pub invariant-loop-i : goal.invariant-loop-i
invariant-loop-i l = AreOrdered l.patches l.prices l.j l.i l.list.items
