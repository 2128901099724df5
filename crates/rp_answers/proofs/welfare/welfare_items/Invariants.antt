use Rattle.std.proofs.Common.{◌/◌, ◌%◌}
use Rattle.rp_evidence.specs.Input.{input_of_table}
use Rattle.rp_table.specs.Rows.{row_of}
use Rattle.rp_table.specs.Tables.{records_of}
use Rattle.rp_answers.specs.GarpFirst.{AreAnswered}
use Rattle.rp_answers.specs.WelfareText.{IsWelfareItem}
use Rattle.rp_answers.proofs.welfare.welfare_items.Given as goal

abbrev pub invariant-loop-k : goal.invariant-loop-k
invariant-loop-k l =
    AreAnswered l.k
    (λ k. IsWelfareItem (input_of_table l.table) l.tested.garp (row_of l.new.prices l.new.goods (k / records_of l.table)) (k % records_of l.table)) l.items.items
