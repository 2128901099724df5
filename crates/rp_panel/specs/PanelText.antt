-- What is printed of a long file (this program's own): a row for each household, in the order of their first records, with
-- the verdicts on the table that its records denote or the fault of that; then a row for each record that is refused for
-- its id, in the order of the file.
use Rattle.std.specs.Prelude.{◌≡◌, ◌<◌, ◌++◌, ℕ, Bool, List, [], Option, length, map, replicate, slice_index_or}
use Rattle.rp_evidence.specs.declared.homothetic.Homothetic.{Homothetic}
use Rattle.rp_long.specs.Panels.{Household, Panel, nobody}
use Rattle.rp_long.specs.declared.fault.IdFault.{IdFault}
use Rattle.rp_long.specs.declared.fault.IdFault.TheVariants as id
use Rattle.rp_long.specs.declared.fault.Unnamed.{Unnamed}
use Rattle.rp_offered.specs.declared.offered.Places.{Places}
use Rattle.rp_panel.specs.OfferedText.{columns_after, places_asked, texts_after}
use Rattle.rp_rows.specs.RowText.{rows_text}
use Rattle.rp_rows.specs.Rows.{IsRowOf}
use Rattle.rp_rows.specs.declared.asked.Asked.{Asked}
use Rattle.rp_rows.specs.declared.fault.Fault.{Fault}
use Rattle.rp_rows.specs.declared.fault.Fault.TheVariants.{LongId, NoId}
use Rattle.rp_rows.specs.declared.row.Found.TheVariants.{Fault as FaultFound}
use Rattle.rp_rows.specs.declared.row.Row.{Row}
use Rattle.rp_table.specs.Tables.{Observations}

-- the row of a household, with what is told of the budgets that were offered, by the places of the file's numbers, where it
-- is asked
abbrev pub IsRowOfHousehold : (Observations → Homothetic → Type 0) → Asked → Option Places → Household → Row → Type 0
IsRowOfHousehold given asked offered household row =
    IsRowOf given asked household.id (texts_after offered household) household.table row

-- one row for each household, in order
pub record AreRowsOf (given : Observations → Homothetic → Type 0) (asked : Asked) (offered : Option Places)
    (households : List Household) (rows : List Row) : Type 0 where
  pub one_each : length rows ≡ length households
  pub each : (h : ℕ) (row : Row) → h < length households
      → IsRowOfHousehold given asked offered (slice_index_or households h nobody) (slice_index_or rows h row)

-- why a record is refused for its id, with its number
abbrev pub fault_at : ℕ → IdFault → Fault
fault_at row id.NoId = NoId row
fault_at row id.LongId = LongId row

abbrev pub id_fault : Unnamed → Fault
id_fault unnamed = fault_at unnamed.row unnamed.fault

-- the row of a record that is refused for its id, with so many texts that are kept, all empty
abbrev pub unnamed_row : ℕ → Unnamed → Row
unnamed_row kept unnamed = record { household = []; kept = replicate kept []; found = FaultFound (id_fault unnamed) }

-- the text of the rows of a panel, with the names of the columns that are kept, and with what is told of the budgets that
-- were offered, where it is asked
pub record IsPanelText (given : Observations → Homothetic → Type 0) (asked : Asked) (offered : Bool)
    (kept : List (List ℕ)) (panel : Panel) (text : List ℕ) : Type 0 where
  pub rows : List Row
  pub of_households : AreRowsOf given asked (places_asked offered panel.households) panel.households rows
  pub text_is : text ≡ rows_text (columns_after offered kept)
      (rows ++ map (unnamed_row (length (columns_after offered kept))) panel.unnamed)
