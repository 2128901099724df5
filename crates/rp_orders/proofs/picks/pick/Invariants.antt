use Rattle.std.proofs.Common.{◌≡◌, drop}
use Rattle.rp_orders.specs.Orders.{picked}
use Rattle.rp_orders.proofs.picks.pick.Given as goal

abbrev pub invariant-loop-letter : goal.invariant-loop-letter
invariant-loop-letter l = picked l.menu (drop l.letter-index l.order) ≡ picked l.menu l.order
