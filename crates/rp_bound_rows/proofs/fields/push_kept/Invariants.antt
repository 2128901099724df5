use Rattle.std.proofs.Common.{◌≡◌, ◌++◌, [], take}
use Rattle.csv.specs.Records.{fields_of, partial_of}
use Rattle.rp_bound_rows.proofs.fields.push_kept.Given as goal

abbrev pub invariant-loop-text : goal.invariant-loop-text
invariant-loop-text l = record {
  whole : partial_of l.line ≡ [];
  fields : fields_of l.line ≡ fields_of l.fn.line ++ take l.text-index l.kept;
}
