use Rattle.std.proofs.Common.{◌≡◌, ◌≢◌, None, Some, sym, ◌∙◌}
use Rattle.rp_sheet.specs.Fields.{fault_in_record}
use Rattle.rp_sheet.specs.declared.fault.TableFault.TheVariants as fault
use Rattle.rp_sheet.proofs.FieldFaults.{after_fields, bad_field, ragged}
use Rattle.rp_num.proofs.PassedOn.{passed_on}
use Rattle.rp_sheet.proofs.record_kind.read_record.Goals as goal

pub returns-then-row_width-len-clause-refused : goal.returns-then-row_width-len-clause-refused
returns-then-row_width-len-clause-refused g c = λ _.
    let columns = c.args.columns.now in
    rw (c.tell.ensures, c.number_of.ensures) (ragged g.K.RecordKind.faults columns.form columns.headers c.args.records.now c.args.t (λ same. c.if-row_width-len.true (c.row_width.ensures ∙ same ∙ sym c.len.ensures)))

pub returns-in_err-figures-clause-refused : goal.returns-in_err-figures-clause-refused
returns-in_err-figures-clause-refused g c =
    let columns = c.args.columns.now in
    let faults = g.K.RecordKind.faults in
    let same = sym c.row_width.ensures ∙ c.if-row_width-len.false ∙ c.len.ensures in
    passed_on c.from_residual.result c.in_err-figures.field-0.0 (λ e. e ≢ faults.told fault.NoMemory → fault_in_record faults columns.form columns.headers c.args.records.now c.args.t ≡ Some e) c.from_residual.ensures
    (λ other. bad_field faults columns.form columns.headers c.args.records.now c.args.t c.in_err-figures.field-0.0 same (c.in_err-figures.ensures.refused other))

pub returns-in_err-check_rest-clause-refused : goal.returns-in_err-check_rest-clause-refused
returns-in_err-check_rest-clause-refused g c =
    let columns = c.args.columns.now in
    let faults = g.K.RecordKind.faults in
    let same = sym c.row_width.ensures ∙ c.if-row_width-len.false ∙ c.len.ensures in
    passed_on c.from_residual-in_err-check_rest.result c.in_err-check_rest.field-0.0 (λ e. e ≢ faults.told fault.NoMemory → fault_in_record faults columns.form columns.headers c.args.records.now c.args.t ≡ Some e) c.from_residual-in_err-check_rest.ensures
    (λ _. after_fields faults columns.form columns.headers c.args.records.now c.args.t (Some c.in_err-check_rest.field-0.0) same c.in_ok-figures.ensures.faultless c.in_err-check_rest.ensures)

pub returns-clause-faultless : goal.returns-clause-faultless
returns-clause-faultless g c =
    let columns = c.args.columns.now in
    let same = sym c.row_width.ensures ∙ c.if-row_width-len.false ∙ c.len.ensures in
    after_fields g.K.RecordKind.faults columns.form columns.headers c.args.records.now c.args.t None same c.in_ok-figures.ensures.faultless c.in_ok-check_rest.ensures
