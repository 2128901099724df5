use Rattle.std.proofs.Common.{◌≡◌, None, length}
use Rattle.rp_num.specs.Below.{first_of, listed}
use Rattle.rp_sheet.specs.Fields.{fault_in_record, figure}
use Rattle.rp_sheet.proofs.record_kind.read_records.Given as goal

abbrev pub invariant-loop-t : goal.invariant-loop-t
invariant-loop-t g l = record {
  so_far : l.rows.items ≡ listed l.t (λ t. listed (length l.columns.headers) (figure l.columns.form l.columns.headers l.records t));
  faultless : first_of l.t (fault_in_record g.K.RecordKind.faults l.columns.form l.columns.headers l.records) ≡ None;
}
