use Rattle.rp_pref.specs.InnerSearch.{Deepens}
use Rattle.rp_pref.proofs.search.deepen.Given as goal

abbrev pub invariant-loop-u : goal.invariant-loop-u
invariant-loop-u l = Deepens l.table l.n l.s l.depth l.u l.initial.depths l.depths l.before l.found
