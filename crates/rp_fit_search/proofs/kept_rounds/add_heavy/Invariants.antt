use Rattle.rp_fit_search.specs.Looked.{HasLooked}
use Rattle.rp_fit_search.proofs.kept_rounds.add_heavy.Given as goal

abbrev pub invariant-loop-s : goal.invariant-loop-s
invariant-loop-s l = HasLooked l.fn.looks l.looks
