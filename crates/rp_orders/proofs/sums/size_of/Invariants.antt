use Rattle.std.proofs.Common.{◌≡◌, ◌≤◌}
use Rattle.rp_orders.specs.MenuSums.{size_of}
use Rattle.rp_orders.proofs.sums.size_of.Given as goal

abbrev pub invariant-loop-x : goal.invariant-loop-x
invariant-loop-x l = (l.size ≡ size_of l.x l.menu) × (l.size ≤ l.x)
