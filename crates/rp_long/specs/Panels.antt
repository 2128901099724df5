-- What a long file denotes: households, each with its id, its records and its table or the fault of that; the records
-- that are refused for their ids; the columns that are left out; or the first fault of the file (a format of this
-- project's own).
use Rattle.std.specs.Prelude.{◌≡◌, ◌≢◌, ℕ, List, [], map, slice_index_or, Option, None, Some, Result, Ok, Err, IfErr}
use Rattle.rp_table.specs.Tables.{Observations}
use Rattle.rp_forms.specs.Texts.{text_at, trimmed}
use Rattle.rp_sheet.specs.Fields.{row_at, rows_in}
use Rattle.rp_sheet.specs.Headers.{headers_of}
use Rattle.rp_sheet.specs.Records.{records_in, selected_fields}
use Rattle.rp_sheet.specs.Selections.{selected_records}
use Rattle.rp_sheet.specs.declared.fault.TableFault.{TableFault}
use Rattle.rp_sheet.specs.declared.fault.TableFault.TheVariants as fault
use Rattle.rp_text.specs.Denotation.{denoted_table}
use Rattle.rp_long.specs.InLongFile.{denoted_in_long_file}
use Rattle.rp_long.specs.LongColumns.{Uses, left_out_of, uses_of}
use Rattle.rp_long.specs.LongFaults.{first_fault}
use Rattle.rp_long.specs.Ids.{ids_below, records_with, unnamed_below}
use Rattle.rp_long.specs.declared.fault.LongFault.{LongFault}
use Rattle.rp_long.specs.declared.fault.LongFault.TheVariants as long_fault
use Rattle.rp_long.specs.declared.fault.Unnamed.{Unnamed}

-- a household: its id without the blanks round it, its records, from 0 in the order of the file, the texts that are kept
-- of the first of them, and what they denote as a table, or the fault of that with its place in the long file
pub record Household : Type 0 where
  pub id : List ℕ
  pub records : List ℕ
  pub kept : List (List ℕ)
  pub table : Result Observations TableFault

-- the households in the order of their first records, the records that are refused for their ids, in order, and the names
-- of the columns that are left out, in order
pub record Panel : Type 0 where
  pub households : List Household
  pub unnamed : List Unnamed
  pub left_out : List (List ℕ)

-- the text that stands for the id of a record
abbrev pub id_text : ℕ → List (List (List ℕ)) → ℕ → List ℕ
id_text column records t = trimmed (text_at (row_at records t) column)

-- the household of these records
abbrev pub household_with : Uses → List (List (List ℕ)) → List ℕ → List ℕ → Household
household_with uses records id rows = record {
  id = id;
  records = rows;
  kept = selected_fields uses.kept (row_at records (slice_index_or rows 0 0));
  table = denoted_in_long_file rows uses.table (denoted_table (selected_records records rows uses.table));
}

-- the household with that id: its records are all that have the id, wherever they stand
abbrev pub household_of : Uses → List (List (List ℕ)) → List ℕ → Household
household_of uses records id =
    household_with uses records id (records_with (id_text uses.id records) (rows_in records) id)

-- what the records of a file with these uses of its columns hold
abbrev pub panel_with : Uses → List (List (List ℕ)) → Panel
panel_with uses records = record {
  households = map (household_of uses records) (ids_below (id_text uses.id records) (rows_in records));
  unnamed = unnamed_below (id_text uses.id records) (rows_in records);
  left_out = left_out_of uses (headers_of records);
}

-- a panel, where there is no fault
abbrev pub unless_fault : Option LongFault → Panel → Result Panel LongFault
unless_fault None panel = Ok panel
unless_fault (Some f) panel = Err f

-- what records denote as a long file in which the ids have that name and the texts under those names are kept
unfoldable pub denoted_panel : List ℕ → List (List ℕ) → List (List (List ℕ)) → Result Panel LongFault
denoted_panel id kept records =
    unless_fault (first_fault id kept records) (panel_with (uses_of id kept (headers_of records)) records)

-- what the bytes of a file denote so
abbrev pub panel_in : List ℕ → List (List ℕ) → List ℕ → Result Panel LongFault
panel_in id kept bytes = denoted_panel id kept (records_in bytes)

-- no household
abbrev pub nobody : Household
nobody = record { id = []; records = []; kept = []; table = Err fault.Empty }

-- a household of a panel, from 0
abbrev pub household_at : Panel → ℕ → Household
household_at panel h = slice_index_or panel.households h nobody

-- refused with the fault that is denoted, or for want of memory
abbrev pub RefusedPanel : {A B : Type 0} → Result A LongFault → Result B LongFault → Type 0
RefusedPanel result denoted = IfErr result (λ e. e ≢ long_fault.Table fault.NoMemory → denoted ≡ Err e)
