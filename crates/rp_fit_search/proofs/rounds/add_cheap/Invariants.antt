use Rattle.std.proofs.Common.{◌≡◌, vec_len}
use Rattle.rp_fit_search.specs.Looked.{HasLooked}
use Rattle.rp_fit_search.proofs.rounds.add_cheap.Given as goal

abbrev pub invariant-loop-s : goal.invariant-loop-s
invariant-loop-s l = HasLooked l.fn.looks l.looks × (vec_len l.closed ≡ vec_len l.initial.closed)
