use Rattle.std.proofs.Common.{◌≡◌, ◌≤◌, ◌*◌, ◌^◌, slice_index}
use Rattle.rp_table.specs.Sums.{sum_below}
use Rattle.rp_orders.specs.OrderKinds.{cells_picked}
use Rattle.rp_orders.proofs.picks.weight_picked.Given as goal

abbrev pub invariant-loop-i : goal.invariant-loop-i
invariant-loop-i l =
    (l.weight ≡ sum_below l.i (λ j. slice_index l.weights (slice_index (cells_picked l.seen l.order) j)))
    × (l.weight ≤ l.i * 2 ^ 64)
