use Rattle.rp_whole_tableau.specs.ReadOff.{AreAmounts}
use Rattle.rp_whole_tableau.proofs.grown.Grown.entries_by.Given as goal

abbrev pub invariant-loop-i : goal.invariant-loop-i
invariant-loop-i l = AreAmounts l.self.tableau l.common l.i l.entries.items
