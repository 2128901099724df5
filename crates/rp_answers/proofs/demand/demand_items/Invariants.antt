use Rattle.std.proofs.Common.{slice_index}
use Rattle.rp_evidence.specs.Input.{input_of_table}
use Rattle.rp_table.specs.Rows.{row_of}
use Rattle.rp_answers.specs.GarpFirst.{AreAnswered}
use Rattle.rp_answers.specs.DemandText.{IsDemandItem}
use Rattle.rp_answers.proofs.demand.demand_items.Given as goal

abbrev pub invariant-loop-i : goal.invariant-loop-i
invariant-loop-i l =
    AreAnswered l.i (λ i. IsDemandItem (input_of_table l.table) l.tested.garp (row_of l.new.prices l.new.goods i) (slice_index l.new.m i)) l.items.items
