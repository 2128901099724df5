use Rattle.rp_whole_tableau.specs.InnerPivots.{IsRenewedBelow}
use Rattle.rp_whole_tableau.proofs.pivot.Renewal.renew_row.Given as goal

abbrev pub invariant-loop-j : goal.invariant-loop-j
invariant-loop-j l = IsRenewedBelow l.self.by.number l.self.pivot l.factor l.pivot_row l.fn.row.items l.row.items l.j
