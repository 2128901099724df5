use Rattle.std.proofs.Common.{◌≡◌, ◌≢◌, ◌<◌, length, Some, sym, arith}
use Rattle.rp_num.specs.Below.{first_of}
use Rattle.rp_num.proofs.BelowLemmas.{first_at}
use Rattle.rp_sheet.specs.declared.fault.TableFault.TheVariants as fault
use Rattle.rp_num.proofs.PassedOn.{passed_on}
use Rattle.rp_sheet.proofs.record_kind.read_fields.Goals as goal

pub returns-in_err-number-clause-refused : goal.returns-in_err-number-clause-refused
returns-in_err-number-clause-refused g c =
    let columns = c.args.columns.now in
    let faults = g.K.RecordKind.faults in
    let within : c.loop-c.c < length columns.headers = omega (arith, c.len-c-end.ensures, c.loop-c-test.true) in
    passed_on c.from_residual.result c.in_err-number.field-0.0 (λ e. e ≢ faults.told fault.NoMemory → first_of (length columns.headers) (faults.field_fault columns.form columns.headers c.args.records.now c.args.t) ≡ Some e) c.from_residual.ensures
    (λ _. first_at (faults.field_fault columns.form columns.headers c.args.records.now c.args.t) c.loop-c.c (length columns.headers) c.in_err-number.field-0.0 within c.loop-c.invariant.faultless (sym c.in_err-number.ensures.fault))
