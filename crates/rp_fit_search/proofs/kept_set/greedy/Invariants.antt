use Rattle.rp_fit_search.specs.Looked.{HasLooked}
use Rattle.rp_fit_search.proofs.kept_set.greedy.Given as goal

abbrev pub invariant-loop-k : goal.invariant-loop-k
invariant-loop-k l = HasLooked l.fn.looks l.looks
