use Rattle.rp_clauses.proofs.MarkedLists.{ListsUpTo}
use Rattle.rp_clauses.proofs.reach.is_marked_list.Given as goal

abbrev pub invariant-loop-t : goal.invariant-loop-t
invariant-loop-t l = ListsUpTo l.marks l.list l.at l.t
