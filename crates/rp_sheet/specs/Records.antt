-- The records of a file, as text of comma-separated values (RFC 4180): the first one has the headers.
use Rattle.std.specs.Prelude.{ℕ, List, [], map, slice_index_or}
use Rattle.csv.specs.Reading.{default_config, records, strip_bom}
use Rattle.rp_forms.specs.Texts.{text_at}

-- the records of a file's bytes, each a list of fields, without a byte order mark at the beginning
unfoldable pub records_in : List ℕ → List (List (List ℕ))
records_in bytes = records default_config (strip_bom bytes)

-- the k-th record, from 0
abbrev pub record_at : List (List (List ℕ)) → ℕ → List (List ℕ)
record_at records k = slice_index_or records k []

-- the fields of a record in these columns, from 0
abbrev pub selected_fields : List ℕ → List (List ℕ) → List (List ℕ)
selected_fields columns fields = map (text_at fields) columns
