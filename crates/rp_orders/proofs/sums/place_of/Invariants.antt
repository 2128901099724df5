use Rattle.std.proofs.Common.{◌≡◌, ◌==◌}
use Rattle.rp_orders.specs.OrderKinds.{first_with}
use Rattle.rp_orders.specs.OrderMixtures.{menu_at}
use Rattle.rp_orders.proofs.sums.place_of.Given as goal

abbrev pub invariant-loop-i : goal.invariant-loop-i
invariant-loop-i l = first_with l.i (λ j. menu_at l.seen j == l.menu) ≡ l.i
