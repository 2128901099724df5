use Rattle.std.proofs.Common.{slice_index}
use Rattle.rp_evidence.specs.Input.{input_of_table}
use Rattle.rp_welfare.specs.InnerCheapest.{IsCheapestBelow}
use Rattle.rp_welfare.proofs.upper.first_cheapest.Given as goal

abbrev pub invariant-loop-s : goal.invariant-loop-s
invariant-loop-s l = IsCheapestBelow (input_of_table l.new.table.now) (slice_index l.new.prices.now) l.t l.s l.best.at l.best.cost
