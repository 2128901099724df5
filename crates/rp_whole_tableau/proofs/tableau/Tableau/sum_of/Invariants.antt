use Rattle.std.proofs.Common.{◌≡◌}
use Rattle.rp_whole_tableau.specs.Programs.{slacks_in}
use Rattle.rp_whole_tableau.proofs.tableau.Tableau.sum_of.Given as goal

abbrev pub invariant-loop-k : goal.invariant-loop-k
invariant-loop-k l = l.sum ≡ slacks_in l.self l.i l.rows l.k
