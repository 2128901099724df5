-- The row of a household: its id, the texts that are kept of it, and the bounds at new prices on the table that its
-- records denote, or the fault for which it has none (this program's own).
use Rattle.std.specs.Prelude.{◌≡◌, ◌≢◌, ◌+◌, ◌⊎◌, ℕ, List, [], Result, Ok, Err, true, false}
use Rattle.rp_evidence.specs.declared.demand.DemandPart.{DemandPart}
use Rattle.rp_evidence.specs.declared.demand.WelfarePart.{WelfarePart}
use Rattle.rp_rows.specs.declared.fault.Fault.TheVariants.{OfTable, OwnLevels}
use Rattle.rp_sheet.specs.declared.fault.TableFault.{TableFault}
use Rattle.rp_table.specs.PriceLists.{PriceList}
use Rattle.rp_table.specs.Tables.{Observations, goods_of, records_of}
use Rattle.rp_text.specs.Denotation.{prices_beside}
use Rattle.rp_bound_rows.specs.DemandLines.{AreDemandLines}
use Rattle.rp_bound_rows.specs.PricePlaces.{price_places_beside}
use Rattle.rp_bound_rows.specs.WelfareLines.{AreWelfareLines}
use Rattle.rp_bound_rows.specs.declared.asked.BoundsAsked.{BoundsAsked}
use Rattle.rp_bound_rows.specs.declared.asked.BoundsAsked.TheVariants.{Demand, Welfare}
use Rattle.rp_bound_rows.specs.declared.fault.BoundFault.{BoundFault}
use Rattle.rp_bound_rows.specs.declared.fault.BoundFault.TheVariants.{OfHousehold, OfNewPrices}
use Rattle.rp_bound_rows.specs.declared.line.Line.{Line}
use Rattle.rp_bound_rows.specs.declared.row.BoundRow.{BoundRow}
use Rattle.rp_bound_rows.specs.declared.row.Bounds.{Bounds}
use Rattle.rp_bound_rows.specs.declared.row.FoundBounds.{FoundBounds}
use Rattle.rp_bound_rows.specs.declared.row.FoundBounds.TheVariants.{Bounds as BoundsFound, Fault as FaultFound}

-- which evidence is given: on demand at prices with so much to spend, and on the money metric of an observation
abbrev pub GivenDemand : Type 1
GivenDemand = Observations → List ℕ → ℕ → DemandPart → Type 0

abbrev pub GivenWelfare : Type 1
GivenWelfare = Observations → List ℕ → ℕ → WelfarePart → Type 0

-- the size of the table
pub record HasSizeOf (table : Observations) (bounds : Bounds) : Type 0 where
  pub observations : bounds.observations ≡ records_of table
  pub goods : bounds.goods ≡ goods_of table

-- bounds with the size of the table and these lines
abbrev pub HasLines : Observations → List (List Line) → FoundBounds → Type 0
HasLines table at (BoundsFound bounds) = HasSizeOf table bounds × (bounds.at ≡ at)
HasLines table at (FaultFound fault) = ⊥

-- the first fault of the new prices beside the table
abbrev pub IsNewFault : Result PriceList TableFault → BoundFault → Type 0
IsNewFault denoted fault = (first : TableFault) × (denoted ≡ Err first) × (fault ≡ OfNewPrices first)

-- what is found on demand beside the bytes of a file of new prices: the bounds at the prices that these denote, in the
-- units of the quantities; or their first fault
abbrev pub IsFoundDemand : GivenDemand → Observations → List ℕ → FoundBounds → Type 0
IsFoundDemand given table bytes (BoundsFound bounds) =
    (new : PriceList) × (prices_beside true table bytes ≡ Ok new) × HasSizeOf table bounds
    × AreDemandLines given table new bounds.at
IsFoundDemand given table bytes (FaultFound fault) = IsNewFault (prices_beside true table bytes) fault

-- the same on the money metric; money has the places of the prices and those of the quantities
abbrev pub IsFoundWelfare : GivenWelfare → Observations → List ℕ → FoundBounds → Type 0
IsFoundWelfare given table bytes (BoundsFound bounds) =
    (new : PriceList) × (places : ℕ) × (prices_beside false table bytes ≡ Ok new)
    × (price_places_beside table bytes ≡ Ok places) × HasSizeOf table bounds
    × AreWelfareLines given table (places + table.quantity_places) new bounds.at
IsFoundWelfare given table bytes (FaultFound fault) = IsNewFault (prices_beside false table bytes) fault

-- what is asked of the two
abbrev pub IsFoundAt : GivenDemand → GivenWelfare → BoundsAsked → Observations → List ℕ → FoundBounds → Type 0
IsFoundAt of_demand of_welfare Demand table bytes found = IsFoundDemand of_demand table bytes found
IsFoundAt of_demand of_welfare Welfare table bytes found = IsFoundWelfare of_welfare table bytes found

-- what is found on a table: a fault just where it has levels of its own, else what is asked
abbrev pub IsFoundOn : GivenDemand → GivenWelfare → BoundsAsked → Observations → List ℕ → FoundBounds → Type 0
IsFoundOn of_demand of_welfare asked table bytes found =
    ((table.levels ≢ []) × (found ≡ FaultFound (OfHousehold OwnLevels)))
    ⊎ ((table.levels ≡ []) × IsFoundAt of_demand of_welfare asked table bytes found)

-- what is found of records that denote a table, or have a first fault
abbrev pub IsFound : GivenDemand → GivenWelfare → BoundsAsked → List ℕ → Result Observations TableFault → FoundBounds
    → Type 0
IsFound of_demand of_welfare asked bytes (Ok table) found = IsFoundOn of_demand of_welfare asked table bytes found
IsFound of_demand of_welfare asked bytes (Err fault) found = found ≡ FaultFound (OfHousehold (OfTable fault))

-- the row of a household of which the records denote this, beside the bytes of a file of new prices
pub record IsBoundRowOf (of_demand : GivenDemand) (of_welfare : GivenWelfare) (asked : BoundsAsked) (bytes household : List ℕ)
    (kept : List (List ℕ)) (denoted : Result Observations TableFault) (row : BoundRow) : Type 0 where
  pub household_is : row.household ≡ household
  pub kept_are : row.kept ≡ kept
  pub found_is : IsFound of_demand of_welfare asked bytes denoted row.found
