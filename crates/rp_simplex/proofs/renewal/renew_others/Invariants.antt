use Rattle.rp_simplex.specs.InnerRows.{AreRenewed, factor}
use Rattle.rp_simplex.proofs.renewal.renew_others.Given as goal

abbrev pub invariant-loop-i : goal.invariant-loop-i
invariant-loop-i l = AreRenewed l.fn.grid l.grid l.r l.pivot (factor l.fn.grid l.column) l.divisor l.i
