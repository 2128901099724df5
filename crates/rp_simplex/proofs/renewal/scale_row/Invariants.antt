use Rattle.std.proofs.Common.{◌*ℤ◌}
use Rattle.rp_simplex.specs.Cells.{cell}
use Rattle.rp_simplex.specs.InnerRows.{IsQuotient, IsRowWritten}
use Rattle.rp_simplex.proofs.renewal.scale_row.Given as goal

abbrev pub invariant-loop-j : goal.invariant-loop-j
invariant-loop-j l = IsRowWritten l.fn.grid l.grid l.i l.j (λ k value. IsQuotient (cell l.fn.grid l.i k *ℤ l.by) l.divisor value)
