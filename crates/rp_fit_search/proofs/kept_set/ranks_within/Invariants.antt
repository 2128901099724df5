use Rattle.rp_fit_search.specs.Looked.{HasLooked}
use Rattle.rp_fit_search.proofs.kept_set.ranks_within.Given as goal

abbrev pub invariant-loop-turn : goal.invariant-loop-turn
invariant-loop-turn l = HasLooked l.fn.looks l.looks
