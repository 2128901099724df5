use Rattle.rp_orders.specs.InnerOrders.{AreListedBelow}
use Rattle.rp_orders.proofs.orders.all_orders.Given as goal

abbrev pub invariant-loop-n : goal.invariant-loop-n
invariant-loop-n l = AreListedBelow l.seen l.n l.orders.items
