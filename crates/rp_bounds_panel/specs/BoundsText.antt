-- What is printed of a long file and a file of new prices (this program's own): the lines of each household, in the order
-- of their first records, with the bounds on the table that its records denote or the fault of that; then a line for each
-- record that is refused for its id, in the order of the file.
use Rattle.std.specs.Prelude.{◌≡◌, ◌<◌, ◌++◌, ℕ, List, [], length, map, replicate, slice_index_or}
use Rattle.rp_bound_rows.specs.BoundRows.{GivenDemand, GivenWelfare, IsBoundRowOf}
use Rattle.rp_bound_rows.specs.RowText.{bound_rows_text}
use Rattle.rp_bound_rows.specs.declared.asked.BoundsAsked.{BoundsAsked}
use Rattle.rp_bound_rows.specs.declared.fault.BoundFault.TheVariants.{OfHousehold}
use Rattle.rp_bound_rows.specs.declared.row.BoundRow.{BoundRow}
use Rattle.rp_bound_rows.specs.declared.row.FoundBounds.TheVariants.{Fault as FaultFound}
use Rattle.rp_long.specs.Panels.{Household, Panel, nobody}
use Rattle.rp_long.specs.declared.fault.IdFault.{IdFault}
use Rattle.rp_long.specs.declared.fault.IdFault.TheVariants as id
use Rattle.rp_long.specs.declared.fault.Unnamed.{Unnamed}
use Rattle.rp_rows.specs.declared.fault.Fault.{Fault}
use Rattle.rp_rows.specs.declared.fault.Fault.TheVariants.{LongId, NoId}

-- the row of a household beside the bytes of a file of new prices
abbrev pub IsRowOfHousehold : GivenDemand → GivenWelfare → BoundsAsked → List ℕ → Household → BoundRow → Type 0
IsRowOfHousehold of_demand of_welfare asked new household row =
    IsBoundRowOf of_demand of_welfare asked new household.id household.kept household.table row

-- one row for each household, in order
pub record AreRowsOf (of_demand : GivenDemand) (of_welfare : GivenWelfare) (asked : BoundsAsked) (new : List ℕ)
    (households : List Household) (rows : List BoundRow) : Type 0 where
  pub one_each : length rows ≡ length households
  pub each : (h : ℕ) (row : BoundRow) → h < length households
      → IsRowOfHousehold of_demand of_welfare asked new (slice_index_or households h nobody) (slice_index_or rows h row)

-- why a record is refused for its id, with its number
abbrev pub fault_at : ℕ → IdFault → Fault
fault_at row id.NoId = NoId row
fault_at row id.LongId = LongId row

abbrev pub id_fault : Unnamed → Fault
id_fault unnamed = fault_at unnamed.row unnamed.fault

-- the row of a record that is refused for its id, with so many texts that are kept, all empty
abbrev pub unnamed_row : ℕ → Unnamed → BoundRow
unnamed_row kept unnamed =
    record { household = []; kept = replicate kept []; found = FaultFound (OfHousehold (id_fault unnamed)) }

-- the text of the rows of a panel, with the names of the columns that are kept
pub record IsBoundsText (of_demand : GivenDemand) (of_welfare : GivenWelfare) (asked : BoundsAsked) (new : List ℕ)
    (kept : List (List ℕ)) (panel : Panel) (text : List ℕ) : Type 0 where
  pub rows : List BoundRow
  pub of_households : AreRowsOf of_demand of_welfare asked new panel.households rows
  pub text_is : text ≡ bound_rows_text asked kept (rows ++ map (unnamed_row (length kept)) panel.unnamed)
