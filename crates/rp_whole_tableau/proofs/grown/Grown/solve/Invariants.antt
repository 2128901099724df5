use Rattle.rp_whole_tableau.specs.Programs.{LeadsIn}
use Rattle.rp_whole_tableau.proofs.grown.Grown.solve.Given as goal

abbrev pub invariant-loop-pivot : goal.invariant-loop-pivot
invariant-loop-pivot l = LeadsIn l._pivot l.fn.self l.self
