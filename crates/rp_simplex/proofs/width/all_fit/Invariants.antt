use Rattle.std.proofs.Common.{ℕ, ◌<◌, length}
use Rattle.std.specs.Int.RustNames.{unsigned_abs}
use Rattle.rp_farkas.specs.Limits.{FitsEvidence}
use Rattle.rp_grid.specs.Rows.{row_of}
use Rattle.rp_simplex.specs.InnerCombined.{dot}
use Rattle.rp_simplex.proofs.width.all_fit.Given as goal

abbrev pub invariant-loop-i : goal.invariant-loop-i
invariant-loop-i l = (k j : ℕ) → k < l.i → j < length l.columns.rows → FitsEvidence (unsigned_abs (dot l.multipliers.cols (row_of l.multipliers k) (row_of l.columns j)))
