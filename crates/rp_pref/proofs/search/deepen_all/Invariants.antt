use Rattle.rp_pref.specs.InnerSearch.{GoesTo, left_of}
use Rattle.rp_pref.proofs.search.deepen_all.Given as goal

abbrev pub invariant-loop-depth : goal.invariant-loop-depth
invariant-loop-depth l = GoesTo l.table l.n l.s l.depth l.depths l.before

abbrev pub decreases-loop-depth : goal.decreases-loop-depth
decreases-loop-depth l = left_of l.depths
