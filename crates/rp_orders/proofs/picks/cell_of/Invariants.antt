use Rattle.std.proofs.Common.{◌≡◌, ◌==◌, ◌&&◌, slice_index}
use Rattle.rp_orders.specs.OrderKinds.{first_with}
use Rattle.rp_orders.proofs.picks.cell_of.Given as goal

abbrev pub invariant-loop-cell : goal.invariant-loop-cell
invariant-loop-cell l =
    first_with l.cell (λ c. (slice_index l.seen.groups c == l.i) && (slice_index l.seen.chosen c == l.letter)) ≡ l.cell
