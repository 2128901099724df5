use Rattle.rp_simplex.specs.InnerStage.{exact}
use Rattle.rp_simplex.specs.InnerTableau.{LeavesBelow}
use Rattle.rp_simplex.proofs.choice.leaving_row.Given as goal

abbrev pub invariant-loop-i : goal.invariant-loop-i
invariant-loop-i l = LeavesBelow l.i l.t.width (exact l.t) l.c l.best
