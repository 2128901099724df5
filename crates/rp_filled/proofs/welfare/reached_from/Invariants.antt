use Rattle.rp_evidence.specs.Enumeration.{Enumerates}
use Rattle.rp_evidence.specs.Input.{input_of_table}
use Rattle.rp_evidence.specs.Welfare.{EqualsOrReaches}
use Rattle.rp_filled.proofs.welfare.reached_from.Given as goal

abbrev pub invariant-loop-s : goal.invariant-loop-s
invariant-loop-s l = Enumerates l.s (EqualsOrReaches (input_of_table l.input.table.now) l.t) l.reached.items
