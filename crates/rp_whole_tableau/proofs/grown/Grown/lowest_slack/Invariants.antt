use Rattle.rp_whole_tableau.specs.InnerPivots.{IsLowestBelow}
use Rattle.rp_whole_tableau.proofs.grown.Grown.lowest_slack.Given as goal

abbrev pub invariant-loop-j : goal.invariant-loop-j
invariant-loop-j l = IsLowestBelow l.self l.j 0 (record { column = l.column; price = l.price })
