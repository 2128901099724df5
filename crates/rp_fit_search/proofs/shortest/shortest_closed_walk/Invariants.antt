use Rattle.rp_fit_search.specs.Looked.{HasLooked}
use Rattle.rp_fit_search.proofs.shortest.shortest_closed_walk.Given as goal

abbrev pub invariant-loop-k : goal.invariant-loop-k
invariant-loop-k l = HasLooked l.fn.looks l.looks
