use Rattle.rp_whole_tableau.specs.InnerReadOff.{DividesWith}
use Rattle.rp_whole_tableau.proofs.grown.Grown.divisor_with_prices.Given as goal

abbrev pub invariant-loop-row : goal.invariant-loop-row
invariant-loop-row l = DividesWith l.self.tableau l.fn.common l.row l.divisor
