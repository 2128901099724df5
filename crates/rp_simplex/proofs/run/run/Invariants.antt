use Rattle.rp_simplex.specs.ReadProgram.{program_in}
use Rattle.rp_simplex.specs.InnerStage.{exact}
use Rattle.rp_simplex.proofs.Ends.{distance}
use Rattle.rp_simplex.proofs.Runs.{IsAt}
use Rattle.rp_simplex.proofs.run.run.Given as goal

abbrev pub invariant-loop-column : goal.invariant-loop-column
invariant-loop-column l = IsAt (program_in l.fn.first.columns) l.t l.step

abbrev pub decreases-loop-column : goal.decreases-loop-column
decreases-loop-column l = distance l.t.rows l.t.width (exact l.t)
