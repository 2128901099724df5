use Rattle.std.proofs.Common.{◌≡◌, ◌*◌, ◌≤◌, drop, ◌+ℤ◌}
use Rattle.std.specs.Int.RustNames.{unsigned_abs}
use Rattle.rp_farkas.proofs.Listings.{listed_total}
use Rattle.rp_farkas.proofs.SumSteps.{product_bound}
use Rattle.rp_farkas.proofs.sums.value_sum.Given as goal

abbrev pub invariant-loop-entry : goal.invariant-loop-entry
invariant-loop-entry g l =
    let f = (g.P.Lp.program l.p).c in
    (l.sum +ℤ listed_total f (drop l.entry-index l.y) ≡ listed_total f l.y)
    × (unsigned_abs l.sum ≤ l.entry-index * product_bound)
