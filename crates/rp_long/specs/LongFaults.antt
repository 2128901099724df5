-- What a long file is refused for as a whole, and the first such fault in this project's own order: a name that stands
-- twice, no column of ids, a name to be kept that is no column's, the goods, the number of records, and a record of
-- another length than the headers.
use Rattle.std.specs.Prelude.{ℕ, ◌==◌, nat_lt, if◌then◌else◌, List, [], ◌∷◌, length, take, Option, None, Some, is_some}
use Rattle.std.specs.Prelude.{◌≡◌, ◌≢◌, option_map, Result, IfErr}
use Rattle.std.specs.List.{list_any}
use Rattle.std.specs.Str.{bytes_eq}
use Rattle.rp_limits.specs.declared.long.TheConstants.{RECORDS}
use Rattle.rp_num.specs.Below.{first_of, first_there}
use Rattle.rp_forms.specs.Texts.{text_at, number_of, place_of}
use Rattle.rp_forms.specs.Forms.{table_form}
use Rattle.rp_sheet.specs.Fields.{row_at, rows_in}
use Rattle.rp_sheet.specs.Headers.{headers_in, headers_of, headers_stage, goods_stage}
use Rattle.rp_sheet.specs.Selections.{selected_records}
use Rattle.rp_sheet.specs.declared.fault.TableFault.{TableFault}
use Rattle.rp_sheet.specs.declared.fault.TableFault.TheVariants as fault
use Rattle.rp_long.specs.InLongFile.{in_long_file}
use Rattle.rp_long.specs.LongColumns.{uses_of}
use Rattle.rp_long.specs.declared.fault.LongFault.{LongFault}
use Rattle.rp_long.specs.declared.fault.LongFault.TheVariants as long_fault

-- a column whose name an earlier one has
unfoldable pub twice_fault : List (List ℕ) → ℕ → Option LongFault
twice_fault headers c =
    if list_any (bytes_eq (text_at headers c)) (take c headers)
    then Some (long_fault.Table (fault.TwiceNamed (number_of c))) else None

-- no column of ids
unfoldable pub id_column_fault : List ℕ → List (List ℕ) → Option LongFault
id_column_fault id headers = if is_some (place_of headers id) then None else Some long_fault.NoIdColumn

-- a name to be kept that no column has
unfoldable pub kept_fault : List (List ℕ) → List (List ℕ) → ℕ → Option LongFault
kept_fault kept headers k =
    if is_some (place_of headers (text_at kept k)) then None else Some (long_fault.NoKeptColumn (number_of k))

-- the first fault of these columns as those of a table
abbrev pub goods_fault_in : List (List ℕ) → Option TableFault
goods_fault_in headers = first_there (headers_stage table_form headers ∷ goods_stage table_form [] headers ∷ [])

-- the first fault of a table's columns, by these columns of the long file
unfoldable pub goods_fault : List ℕ → List (List (List ℕ)) → Option LongFault
goods_fault columns records =
    option_map (λ f. long_fault.Table (in_long_file [] columns f))
    (goods_fault_in (headers_of (selected_records records [] columns)))

-- no record, or more than the limit
unfoldable pub count_fault : List (List (List ℕ)) → Option LongFault
count_fault records =
    if rows_in records == 0 then Some (long_fault.Table fault.NoRecords)
    else if nat_lt RECORDS (rows_in records) then Some (long_fault.Table fault.TooManyRecords)
    else None

-- a record of another length than the headers
unfoldable pub ragged_fault : List (List ℕ) → List (List (List ℕ)) → ℕ → Option LongFault
ragged_fault headers records t =
    if length (row_at records t) == length headers then None
    else Some (long_fault.Table (fault.Ragged (number_of t)))

-- the first fault of the columns, before their goods
unfoldable pub columns_fault : List ℕ → List (List ℕ) → List (List ℕ) → Option LongFault
columns_fault id kept headers = first_there (
    first_of (length headers) (twice_fault headers)
    ∷ id_column_fault id headers
    ∷ first_of (length kept) (kept_fault kept headers)
    ∷ [])

-- the first fault of a long file with these headers
unfoldable pub fault_under : List ℕ → List (List ℕ) → List (List ℕ) → List (List (List ℕ)) → Option LongFault
fault_under id kept headers records = first_there (
    columns_fault id kept headers
    ∷ goods_fault (uses_of id kept headers).table records
    ∷ count_fault records
    ∷ first_of (rows_in records) (ragged_fault headers records)
    ∷ [])

-- the first fault of a long file, which may have no record at all
unfoldable pub first_fault : List ℕ → List (List ℕ) → List (List (List ℕ)) → Option LongFault
first_fault id kept [] = Some (long_fault.Table fault.Empty)
first_fault id kept (header ∷ rows) = fault_under id kept (headers_in header) (header ∷ rows)

-- refused with the fault of this stage, or for want of memory
abbrev pub RefusedFor : {A : Type 0} → Result A LongFault → Option LongFault → Type 0
RefusedFor result stage = IfErr result (λ e. e ≢ long_fault.Table fault.NoMemory → stage ≡ Some e)
