use Rattle.std.proofs.Common.{slice_index}
use Rattle.rp_evidence.specs.Input.{input_of_table}
use Rattle.rp_table.specs.Rows.{row_of, rows_count}
use Rattle.rp_answers.specs.DemandText.{IsDemandItem}
use Rattle.rp_answers.proofs.GarpFirstLemmas.{garp_first_of_table}
use Rattle.rp_answers.proofs.demand.demand_text.Goals as goal

pub print_certificate-requires-clause-kind : goal.print_certificate-requires-clause-kind
print_certificate-requires-clause-kind g c =
    let new = c.args.new.now in
    let input = input_of_table c.args.table.now in
    garp_first_of_table input (rows_count new.prices new.goods) (λ garp i. IsDemandItem input garp (row_of new.prices new.goods i) (slice_index new.m i)) c.in_ok-certificate.certificate c.in_ok-certificate.ensures (λ garp i item is. is.proves)
