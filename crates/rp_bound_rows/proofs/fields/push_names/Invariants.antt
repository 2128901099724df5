use Rattle.std.proofs.Common.{◌≡◌, ◌++◌, [], map, take}
use Rattle.csv.specs.Records.{fields_of, partial_of}
use Rattle.rp_bound_rows.proofs.fields.push_names.Given as goal

abbrev pub invariant-loop-name : goal.invariant-loop-name
invariant-loop-name l = record {
  whole : partial_of l.line ≡ [];
  fields : fields_of l.line ≡ fields_of l.fn.line ++ map (λ name. name.now) (take l.name-index l.names);
}
