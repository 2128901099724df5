-- What a file of choices from menus comes to: menus with the units of their cells (by largest remainders: Hamilton's
-- method), or the first refusal.
use Rattle.std.specs.Prelude.{◌≡◌, ℕ, Option, List, [], ◌++◌, codes}
use Rattle.std.specs.Prelude.{Ok, Err, slice_index}
use Rattle.rp_menu.specs.Denotation.{menus_in}
use Rattle.rp_menu.specs.MenuLists.{MenuList}
use Rattle.rp_menu.specs.declared.fault.MenuFault.{MenuFault}
use Rattle.rp_menu.specs.declared.fault.MenuFault.TheVariants as fault
use Rattle.rp_orders.specs.OrderMixtures.{AreUnitsOf}
use Rattle.rp_patch.specs.Apportionment.{AreGrouped, HasShares, SaysWhyNoUnits, grouped}
use Rattle.rp_patch.specs.declared.apportionment.Units.{Units}
use Rattle.rp_patch.specs.declared.fault.ApportionFault.TheVariants.{NeedUnit}
use Rattle.rp_print.specs.ListText.{line_of, ordinal_text}
use Rattle.rp_commands.specs.FaultTexts.{column_text, record_text}
use Rattle.rp_commands.specs.Readings.{AndThen, HeldIn, Just, Reading}

-- the text of each fault: its name, and then the record and the column where it has them, which count from 1
abbrev pub menu_fault_name : MenuFault → List ℕ
menu_fault_name fault.Empty = codes "Empty"
menu_fault_name (fault.Ragged row) = codes "Ragged"
menu_fault_name (fault.BadHeader column) = codes "BadHeader"
menu_fault_name (fault.TwiceNamed column) = codes "TwiceNamed"
menu_fault_name (fault.Unpaired column) = codes "Unpaired"
menu_fault_name fault.NoRecords = codes "NoRecords"
menu_fault_name fault.TooManyRecords = codes "TooManyRecords"
menu_fault_name (fault.BadNumber row column) = codes "BadNumber"
menu_fault_name (fault.TooManyDecimals row column) = codes "TooManyDecimals"
menu_fault_name (fault.TooLarge row column) = codes "TooLarge"
menu_fault_name (fault.BadMenu row) = codes "BadMenu"
menu_fault_name (fault.BadChoice row) = codes "BadChoice"
menu_fault_name fault.NoMenus = codes "NoMenus"
menu_fault_name (fault.TooManyCells row) = codes "TooManyCells"
menu_fault_name fault.NoMemory = codes "NoMemory"

abbrev pub menu_places_text : MenuFault → List ℕ
menu_places_text fault.Empty = []
menu_places_text (fault.Ragged row) = record_text row
menu_places_text (fault.BadHeader column) = column_text column
menu_places_text (fault.TwiceNamed column) = column_text column
menu_places_text (fault.Unpaired column) = column_text column
menu_places_text fault.NoRecords = []
menu_places_text fault.TooManyRecords = []
menu_places_text (fault.BadNumber row column) = record_text row ++ column_text column
menu_places_text (fault.TooManyDecimals row column) = record_text row ++ column_text column
menu_places_text (fault.TooLarge row column) = record_text row ++ column_text column
menu_places_text (fault.BadMenu row) = record_text row
menu_places_text (fault.BadChoice row) = record_text row
menu_places_text fault.NoMenus = []
menu_places_text (fault.TooManyCells row) = record_text row
menu_places_text fault.NoMemory = []

abbrev pub menu_fault_text : MenuFault → List ℕ
menu_fault_text f = menu_fault_name f ++ menu_places_text f

-- no total that all menus have in common is within the limit, from this menu on, which counts from 1
abbrev pub need_unit_line : ℕ → List ℕ
need_unit_line menu = line_of (codes "rp: NeedUnit menu " ++ ordinal_text menu)

-- the menus that the bytes of a file denote, where they are not too many
abbrev pub MenusOf : List ℕ → List ℕ → Reading MenuList
MenusOf file = HeldIn menu_fault_text file menus_in

-- the units of the cells, which stand by menu, with so many on each menu where that is asked for
abbrev pub UnitsOf : MenuList → Option ℕ → Reading Units
UnitsOf list per (Ok units) =
    AreGrouped list.groups list.counts × AreUnitsOf list units
    × HasShares (grouped list.groups list.counts) per units.total (slice_index units.units)
UnitsOf list per (Err line) = (menu : ℕ) × SaysWhyNoUnits (grouped list.groups list.counts) per (NeedUnit menu)
    × (line ≡ need_unit_line menu)

-- both, from the bytes of a file
abbrev pub MenusIn : Option ℕ → List ℕ → List ℕ → Reading (MenuList × Units)
MenusIn per file bytes =
    AndThen (MenusOf file bytes) (λ list. AndThen (UnitsOf list per) (λ units. Just (Ok (list, units))))
