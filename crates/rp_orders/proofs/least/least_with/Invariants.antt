use Rattle.rp_orders.specs.InnerLeast.{IsLeastBefore}
use Rattle.rp_orders.proofs.least.least_with.Given as goal

abbrev pub invariant-loop-letter : goal.invariant-loop-letter
invariant-loop-letter l = IsLeastBefore l.seen l.units l.menu l.letter l.least
