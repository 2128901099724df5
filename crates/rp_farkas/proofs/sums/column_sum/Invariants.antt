use Rattle.std.proofs.Common.{◌≡◌, ◌*◌, ◌≤◌, pos, ◌*ℤ◌, slice_index}
use Rattle.std.specs.Int.RustNames.{unsigned_abs}
use Rattle.rp_farkas.specs.Total.{total}
use Rattle.rp_farkas.proofs.SumSteps.{product_bound}
use Rattle.rp_farkas.proofs.sums.column_sum.Given as goal

abbrev pub invariant-loop-i : goal.invariant-loop-i
invariant-loop-i g l =
    (l.sum ≡ total l.i (λ i. (g.P.Lp.program l.p).a i l.j *ℤ pos (slice_index l.x i)))
    × (unsigned_abs l.sum ≤ l.i * product_bound)
