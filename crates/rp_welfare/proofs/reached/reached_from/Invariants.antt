use Rattle.rp_evidence.specs.Enumeration.{Enumerates}
use Rattle.rp_evidence.specs.Input.{input_of_table}
use Rattle.rp_evidence.specs.Welfare.{EqualsOrReaches}
use Rattle.rp_welfare.proofs.reached.reached_from.Given as goal

abbrev pub invariant-loop-s : goal.invariant-loop-s
invariant-loop-s l = Enumerates l.s (EqualsOrReaches (input_of_table l.table) l.t) l.reached.items
