use Rattle.rp_simplex.specs.InnerRows.{IsFirstEntry, IsRowWritten}
use Rattle.rp_simplex.proofs.first.fill_column.Given as goal

abbrev pub invariant-loop-i : goal.invariant-loop-i
invariant-loop-i g l = IsRowWritten l.fn.columns l.columns l.j l.i (λ k value. IsFirstEntry (g.P.Lp.program l.p) k l.j value)
