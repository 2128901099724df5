use Rattle.std.proofs.Common.{◌≡◌, [], map, take}
use Rattle.csv.specs.Records.{fields_of, partial_of}
use Rattle.rp_forms.specs.Texts.{text_at}
use Rattle.rp_sheet.proofs.records.select_fields.Given as goal

abbrev pub invariant-loop-c : goal.invariant-loop-c
invariant-loop-c l = record {
  fields : fields_of l.selected ≡ map (text_at (fields_of l.row)) (take l.c-index l.columns);
  whole : partial_of l.selected ≡ [];
}
