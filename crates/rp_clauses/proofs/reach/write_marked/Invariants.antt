use Rattle.std.proofs.Common.{◌≤◌, take}
use Rattle.rp_evidence.specs.Enumeration.{Enumerates}
use Rattle.rp_evidence.specs.Marks.{IsMarked}
use Rattle.rp_clauses.proofs.reach.write_marked.Given as goal

abbrev pub invariant-loop-t : goal.invariant-loop-t
invariant-loop-t l = record {
  few : l.count ≤ l.t;
  listed : Enumerates l.t (IsMarked l.marks) (take l.count l.list);
}
