use Rattle.std.proofs.Common.{◌≡◌, None, take}
use Rattle.rp_num.specs.Below.{first_of}
use Rattle.rp_sheet.specs.Records.{record_at}
use Rattle.rp_sheet.specs.Headers.{headers_in, header_fault}
use Rattle.rp_sheet.proofs.headers.read_columns.Given as goal

abbrev pub invariant-loop-c : goal.invariant-loop-c
invariant-loop-c l = record {
  kind : l.columns.form ≡ l.form;
  so_far : l.columns.headers ≡ take l.c (headers_in (record_at l.records 0));
  faultless : first_of l.c (header_fault l.form (headers_in (record_at l.records 0))) ≡ None;
}
