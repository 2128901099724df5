use Rattle.std.proofs.Common.{◌≡◌, ◌≢◌, ◌<◌, Some, arith}
use Rattle.rp_num.proofs.BelowLemmas.{first_at}
use Rattle.rp_sheet.specs.Fields.{fault_in_record, fault_in_records, rows_in}
use Rattle.rp_sheet.specs.declared.fault.TableFault.TheVariants as fault
use Rattle.rp_num.proofs.PassedOn.{passed_on}
use Rattle.rp_sheet.proofs.record_kind.read_records.Goals as goal

pub returns-in_err-row-clause-refused : goal.returns-in_err-row-clause-refused
returns-in_err-row-clause-refused g c =
    let columns = c.args.columns.now in
    let faults = g.K.RecordKind.faults in
    let within : c.loop-t.t < rows_in c.args.records.now = omega (arith, c.len-t-end.ensures, c.loop-t-test.true) in
    passed_on c.from_residual.result c.in_err-row.field-0.0 (λ e. e ≢ faults.told fault.NoMemory → fault_in_records faults columns.form columns.headers c.args.records.now ≡ Some e) c.from_residual.ensures
    (λ other. first_at (fault_in_record faults columns.form columns.headers c.args.records.now) c.loop-t.t (rows_in c.args.records.now) c.in_err-row.field-0.0 within c.loop-t.invariant.faultless (c.in_err-row.ensures.refused other))

pub returns-clause-faultless : goal.returns-clause-faultless
returns-clause-faultless g c =
    let all : c.loop-t.t ≡ rows_in c.args.records.now = omega (arith, c.len-t-end.ensures, c.loop-t-test.false) in
    rw (← all) c.loop-t.invariant.faultless
