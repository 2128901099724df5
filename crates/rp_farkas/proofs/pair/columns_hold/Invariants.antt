use Rattle.std.proofs.Common.{ℕ, ◌<◌, pos, ◌*ℤ◌, ◌≤ℤ◌, slice_index}
use Rattle.rp_farkas.specs.Prices.{column_times}
use Rattle.rp_farkas.proofs.pair.columns_hold.Given as goal

abbrev pub invariant-loop-j : goal.invariant-loop-j
invariant-loop-j g l = (j : ℕ) → j < l.j → ((g.P.Lp.program l.p).c j *ℤ pos l.den) ≤ℤ column_times (g.P.Lp.program l.p) j (slice_index l.x)
