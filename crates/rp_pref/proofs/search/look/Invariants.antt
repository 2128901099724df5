use Rattle.rp_pref.specs.InnerSearch.{LooksFrom}
use Rattle.rp_pref.proofs.search.look.Given as goal

abbrev pub invariant-loop-t : goal.invariant-loop-t
invariant-loop-t l = LooksFrom l.table l.n l.s l.u l.t l.initial.depths l.depths l.before l.found
