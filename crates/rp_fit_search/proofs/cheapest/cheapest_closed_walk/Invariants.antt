use Rattle.rp_fit_search.specs.Looked.{HasLooked}
use Rattle.rp_fit_search.proofs.cheapest.cheapest_closed_walk.Given as goal

abbrev pub invariant-loop-turn : goal.invariant-loop-turn
invariant-loop-turn l = HasLooked l.fn.looks l.looks
