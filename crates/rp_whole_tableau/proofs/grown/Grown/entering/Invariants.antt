use Rattle.rp_whole_tableau.specs.InnerPivots.{IsLowestBelow}
use Rattle.rp_whole_tableau.specs.Programs.{width_of}
use Rattle.rp_whole_tableau.proofs.grown.Grown.entering.Given as goal

abbrev pub invariant-loop-n : goal.invariant-loop-n
invariant-loop-n l = IsLowestBelow l.self (width_of l.self.tableau) l.n l.lowest
