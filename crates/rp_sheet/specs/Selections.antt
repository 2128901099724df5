-- Some records of a file in some of its columns.
use Rattle.std.specs.Prelude.{ℕ, List, ◌∷◌, map}
use Rattle.rp_sheet.specs.Records.{record_at, selected_fields}
use Rattle.rp_sheet.specs.Fields.{row_at}

-- the headers of these columns, and these records after the headers in these columns alone, from 0
unfoldable pub selected_records : List (List (List ℕ)) → List ℕ → List ℕ → List (List (List ℕ))
selected_records records rows columns =
    selected_fields columns (record_at records 0) ∷ map (λ t. selected_fields columns (row_at records t)) rows
