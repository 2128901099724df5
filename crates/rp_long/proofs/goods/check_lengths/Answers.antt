use Rattle.std.proofs.Common.{◌≡◌, ◌==◌, true, false, length, refl, sym, ◌∙◌, arith}
use Rattle.std.proofs.lemmas.List.{length-map}
use Rattle.rp_forms.specs.Texts.{trimmed}
use Rattle.rp_num.proofs.BelowLemmas.{first_at, none_so_far}
use Rattle.rp_sheet.specs.Fields.{row_at, rows_in}
use Rattle.rp_sheet.specs.Headers.{headers_of}
use Rattle.rp_sheet.specs.Records.{record_at}
use Rattle.rp_sheet.specs.declared.fault.TableFault.TheVariants as fault
use Rattle.rp_long.specs.LongFaults.{ragged_fault}
use Rattle.rp_long.specs.declared.fault.LongFault.TheVariants as long_fault
use Rattle.rp_long.proofs.StageLemmas.{are_one, differ}
use Rattle.rp_long.proofs.goods.check_lengths.Goals as goal

pub returns-then-row_width-headers : goal.returns-then-row_width-headers
unfolding ragged_fault
returns-then-row_width-headers c =
    let records = c.args.records.now in
    let wide = length-map (record_at records 0) trimmed in
    let other : (length (row_at records c.loop-t.t) == length (headers_of records)) ≡ false = differ _ _ (λ same. c.if-row_width-headers.true (c.row_width.ensures ∙ same ∙ wide ∙ sym c.headers.ensures)) in
    sym (first_at (ragged_fault (headers_of records) records) c.loop-t.t (rows_in records) (long_fault.Table (fault.Ragged c.number_of.result)) (omega arith) c.loop-t.invariant (rw (other, c.number_of.ensures) refl))

pub loop-t-preserved : goal.loop-t-preserved
unfolding ragged_fault
loop-t-preserved c =
    let records = c.args.records.now in
    let wide = length-map (record_at records 0) trimmed in
    let same : (length (row_at records c.loop-t.t) == length (headers_of records)) ≡ true = are_one _ _ (sym c.row_width.ensures ∙ c.if-row_width-headers.false ∙ c.headers.ensures ∙ sym wide) in
    none_so_far (ragged_fault (headers_of records) records) c.loop-t.t c.loop-t.invariant (rw same refl)
