use Rattle.std.proofs.Common.{◌<◌, ℕ, length}
use Rattle.rp_orders.specs.OrderKinds.{cell_of}
use Rattle.rp_orders.specs.OrderMixtures.{menu_at}
use Rattle.rp_orders.specs.Orders.{picked}
use Rattle.rp_orders.proofs.picks.picks_cells.Given as goal

abbrev pub invariant-loop-i : goal.invariant-loop-i
invariant-loop-i l =
    (j : ℕ) → j < l.i → cell_of l.seen j (picked (menu_at l.seen j) l.order) < length l.seen.groups
