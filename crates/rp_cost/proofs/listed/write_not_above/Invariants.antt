use Rattle.std.proofs.Common.{◌≤◌, slice_index, take}
use Rattle.rp_evidence.specs.Enumeration.{Enumerates}
use Rattle.rp_cost.proofs.listed.write_not_above.Given as goal

abbrev pub invariant-loop-t : goal.invariant-loop-t
invariant-loop-t l = record {
  few : l.count ≤ l.t;
  listed : Enumerates l.t (λ t. slice_index l.tech.y t ≤ l.y) (take l.count l.list);
}
