use Rattle.std.proofs.Common.{ℕ, ◌<◌, pos, ◌*ℤ◌, ◌≤ℤ◌}
use Rattle.rp_farkas.specs.Listing.{numerator_at}
use Rattle.rp_farkas.specs.Point.{row_times}
use Rattle.rp_farkas.proofs.pair.rows_hold.Given as goal

abbrev pub invariant-loop-i : goal.invariant-loop-i
invariant-loop-i g l = (i : ℕ) → i < l.i → row_times (g.P.Lp.program l.p) i (numerator_at l.y) ≤ℤ ((g.P.Lp.program l.p).b i *ℤ pos l.den)
