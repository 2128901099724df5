use Rattle.rp_orders.specs.InnerLeast.{IsLeastBefore}
use Rattle.rp_orders.proofs.least.least_sum.Given as goal

abbrev pub invariant-loop-menu : goal.invariant-loop-menu
invariant-loop-menu l = IsLeastBefore l.seen l.units l.menu 0 l.least
