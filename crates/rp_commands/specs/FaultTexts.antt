-- The text of each fault of a table file: its name, and then the record, the column and the budget where it has them,
-- which count from 1 (this program's own texts).
use Rattle.std.specs.Prelude.{ℕ, List, [], ◌++◌, codes}
use Rattle.std.specs.Fmt.{decimal}
use Rattle.rp_sheet.specs.declared.fault.TableFault.{TableFault}
use Rattle.rp_sheet.specs.declared.fault.TableFault.TheVariants as fault
use Rattle.rp_json.specs.declared.fault.JsonFault.{JsonFault}
use Rattle.rp_json.specs.declared.fault.JsonFault.TheVariants as json_fault

abbrev pub record_text : ℕ → List ℕ
record_text row = codes " record " ++ decimal row

abbrev pub column_text : ℕ → List ℕ
column_text column = codes " column " ++ decimal column

abbrev pub budget_text : ℕ → List ℕ
budget_text budget = codes " budget " ++ decimal budget

abbrev pub fault_name : TableFault → List ℕ
fault_name fault.Empty = codes "Empty"
fault_name (fault.Ragged row) = codes "Ragged"
fault_name (fault.BadHeader column) = codes "BadHeader"
fault_name (fault.TwiceNamed column) = codes "TwiceNamed"
fault_name (fault.Unpaired column) = codes "Unpaired"
fault_name fault.TooManyGoods = codes "TooManyGoods"
fault_name fault.NoRecords = codes "NoRecords"
fault_name fault.TooManyRecords = codes "TooManyRecords"
fault_name (fault.BadNumber row column) = codes "BadNumber"
fault_name (fault.TooManyDecimals row column) = codes "TooManyDecimals"
fault_name (fault.ZeroPrice row column) = codes "ZeroPrice"
fault_name (fault.ZeroBundle row) = codes "ZeroBundle"
fault_name (fault.TooLarge row column) = codes "TooLarge"
fault_name (fault.OtherGoods column) = codes "OtherGoods"
fault_name (fault.TooFine row column) = codes "TooFine"
fault_name (fault.UnknownBudget row) = codes "UnknownBudget"
fault_name (fault.NoChoices budget) = codes "NoChoices"
fault_name (fault.BadLevel row column) = codes "BadLevel"
fault_name fault.NoMemory = codes "NoMemory"

abbrev pub places_text : TableFault → List ℕ
places_text fault.Empty = []
places_text (fault.Ragged row) = record_text row
places_text (fault.BadHeader column) = column_text column
places_text (fault.TwiceNamed column) = column_text column
places_text (fault.Unpaired column) = column_text column
places_text fault.TooManyGoods = []
places_text fault.NoRecords = []
places_text fault.TooManyRecords = []
places_text (fault.BadNumber row column) = record_text row ++ column_text column
places_text (fault.TooManyDecimals row column) = record_text row ++ column_text column
places_text (fault.ZeroPrice row column) = record_text row ++ column_text column
places_text (fault.ZeroBundle row) = record_text row
places_text (fault.TooLarge row column) = record_text row ++ column_text column
places_text (fault.OtherGoods column) = column_text column
places_text (fault.TooFine row column) = record_text row ++ column_text column
places_text (fault.BadLevel row column) = record_text row ++ column_text column
places_text (fault.UnknownBudget row) = record_text row
places_text (fault.NoChoices budget) = budget_text budget
places_text fault.NoMemory = []

abbrev pub fault_text : TableFault → List ℕ
fault_text f = fault_name f ++ places_text f

-- the text of each fault of a certificate's file: its name, and the item where it has one, which counts from 1; 0 is
-- the whole
abbrev pub json_fault_text : JsonFault → List ℕ
json_fault_text json_fault.NotJson = codes "NotJson"
json_fault_text json_fault.BadVersion = codes "BadVersion"
json_fault_text (json_fault.BadShape item) = codes "BadShape item " ++ decimal item
json_fault_text json_fault.NoMemory = codes "NoMemory"
