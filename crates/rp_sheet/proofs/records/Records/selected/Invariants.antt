use Rattle.std.proofs.Common.{◌≡◌, ◌∷◌, map, take}
use Rattle.csv.specs.Records.{fields_of}
use Rattle.rp_sheet.specs.Fields.{row_at}
use Rattle.rp_sheet.specs.Records.{record_at, selected_fields}
use Rattle.rp_sheet.proofs.records.Records.selected.Given as goal

abbrev pub invariant-loop-t : goal.invariant-loop-t
invariant-loop-t l = map fields_of l.records.items
    ≡ selected_fields l.columns (record_at l.self 0) ∷ map (λ t. selected_fields l.columns (row_at l.self t)) (take l.t-index l.rows)
