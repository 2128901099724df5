use Rattle.rp_evidence.specs.Input.{input_of_table}
use Rattle.rp_evidence.specs.Welfare.{EqualsOrReaches}
use Rattle.rp_check.proofs.MarkedSets.{AreMarkedTo}
use Rattle.rp_check.proofs.welfare.reached.Given as goal

abbrev pub invariant-loop-s : goal.invariant-loop-s
invariant-loop-s l = AreMarkedTo 512 (EqualsOrReaches (input_of_table l.new_prices.table.now) l.t) l.marks l.s
