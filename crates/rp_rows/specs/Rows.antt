-- The row of a household: its id, the texts that are kept of it, and the verdicts on the table that its records denote, or
-- the fault for which it has none (this program's own).
use Rattle.std.specs.Prelude.{◌≡◌, ℕ, List, Result, Ok, Err}
use Rattle.rp_evidence.specs.declared.homothetic.Homothetic.{Homothetic}
use Rattle.rp_sheet.specs.declared.fault.TableFault.{TableFault}
use Rattle.rp_table.specs.Tables.{Observations}
use Rattle.rp_rows.specs.Asked.{MayBeAsked}
use Rattle.rp_rows.specs.Verdicts.{AreVerdicts}
use Rattle.rp_rows.specs.declared.asked.Asked.{Asked}
use Rattle.rp_rows.specs.declared.fault.Fault.TheVariants.{OfTable, OwnLevels}
use Rattle.rp_rows.specs.declared.row.Found.{Found}
use Rattle.rp_rows.specs.declared.row.Found.TheVariants.{Verdicts as VerdictsFound, Fault as FaultFound}
use Rattle.rp_rows.specs.declared.row.Row.{Row}

-- what is found on a table: its verdicts; or that it has levels of its own, just where more is asked than of such a table
abbrev pub IsFoundOn : (Observations → Homothetic → Type 0) → Asked → Observations → Found → Type 0
IsFoundOn given asked table (VerdictsFound verdicts) = MayBeAsked asked table × AreVerdicts given asked table verdicts
IsFoundOn given asked table (FaultFound fault) = (¬ MayBeAsked asked table) × (fault ≡ OwnLevels)

-- what is found of records that denote a table, or have a first fault
abbrev pub IsFound : (Observations → Homothetic → Type 0) → Asked → Result Observations TableFault → Found → Type 0
IsFound given asked (Ok table) found = IsFoundOn given asked table found
IsFound given asked (Err fault) found = found ≡ FaultFound (OfTable fault)

-- the row of a household of which the records denote this
pub record IsRowOf (given : Observations → Homothetic → Type 0) (asked : Asked) (household : List ℕ)
    (kept : List (List ℕ)) (denoted : Result Observations TableFault) (row : Row) : Type 0 where
  pub household_is : row.household ≡ household
  pub kept_are : row.kept ≡ kept
  pub found_is : IsFound given asked denoted row.found
