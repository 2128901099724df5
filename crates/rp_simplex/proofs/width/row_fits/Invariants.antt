use Rattle.std.proofs.Common.{ℕ, ◌<◌, length}
use Rattle.std.specs.Int.RustNames.{unsigned_abs}
use Rattle.rp_farkas.specs.Limits.{FitsEvidence}
use Rattle.rp_grid.specs.Rows.{row_of}
use Rattle.rp_simplex.specs.InnerCombined.{dot}
use Rattle.rp_simplex.proofs.width.row_fits.Given as goal

abbrev pub invariant-loop-j : goal.invariant-loop-j
invariant-loop-j l = (k : ℕ) → k < l.j → FitsEvidence (unsigned_abs (dot (length l.multipliers) l.multipliers (row_of l.columns k)))
