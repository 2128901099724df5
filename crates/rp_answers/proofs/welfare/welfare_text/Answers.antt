use Rattle.std.proofs.Common.{◌*◌, ◌/◌, ◌%◌}
use Rattle.rp_evidence.specs.Input.{input_of_table}
use Rattle.rp_table.specs.Rows.{row_of, rows_count}
use Rattle.rp_table.specs.Tables.{records_of}
use Rattle.rp_answers.specs.WelfareText.{IsWelfareItem}
use Rattle.rp_answers.proofs.GarpFirstLemmas.{garp_first_of_table}
use Rattle.rp_answers.proofs.welfare.welfare_text.Goals as goal

pub print_certificate-requires-clause-kind : goal.print_certificate-requires-clause-kind
print_certificate-requires-clause-kind g c =
    let new = c.args.new.now in
    let n = records_of c.args.table.now in
    let input = input_of_table c.args.table.now in
    garp_first_of_table input (rows_count new.prices new.goods * n) (λ garp k. IsWelfareItem input garp (row_of new.prices new.goods (k / n)) (k % n)) c.in_ok-certificate.certificate c.in_ok-certificate.ensures (λ garp k item is. is.proves)
