use Rattle.std.proofs.Common.{◌≡◌, ◌≤◌, ◌*◌}
use Rattle.std.specs.Int.RustNames.{unsigned_abs}
use Rattle.rp_farkas.specs.Total.{total}
use Rattle.rp_orders.specs.InnerSums.{added_at}
use Rattle.rp_orders.proofs.sums.menu_sum.Given as goal

abbrev pub invariant-loop-more : goal.invariant-loop-more
invariant-loop-more l =
    (l.sum ≡ total l.more (added_at l.seen l.units l.x l.menu)) × (unsigned_abs l.sum ≤ l.more * 1000000000)
