use Rattle.std.proofs.Common.{◌≡◌, None}
use Rattle.rp_num.specs.Below.{first_of, listed}
use Rattle.rp_sheet.specs.Fields.{figure}
use Rattle.rp_sheet.proofs.record_kind.read_fields.Given as goal

abbrev pub invariant-loop-c : goal.invariant-loop-c
invariant-loop-c g l = record {
  so_far : l.figures.items ≡ listed l.c (figure l.columns.form l.columns.headers l.records l.t);
  faultless : first_of l.c (g.K.RecordKind.faults.field_fault l.columns.form l.columns.headers l.records l.t) ≡ None;
}
