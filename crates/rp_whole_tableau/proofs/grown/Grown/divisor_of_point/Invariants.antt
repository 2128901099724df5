use Rattle.rp_whole_tableau.specs.InnerReadOff.{DividesPointBelow}
use Rattle.rp_whole_tableau.proofs.grown.Grown.divisor_of_point.Given as goal

abbrev pub invariant-loop-i : goal.invariant-loop-i
invariant-loop-i l = DividesPointBelow l.self.tableau l.i l.common
