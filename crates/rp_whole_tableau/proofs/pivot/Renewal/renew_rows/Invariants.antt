use Rattle.rp_whole_tableau.specs.InnerPivots.{AreRenewedBelow}
use Rattle.rp_whole_tableau.proofs.pivot.Renewal.renew_rows.Given as goal

abbrev pub invariant-loop-i : goal.invariant-loop-i
invariant-loop-i l = AreRenewedBelow l.self.by.number l.pivot_row l.column l.r l.fn.rows.items l.rows.items l.i
