-- The word of each fault, and the record and the column that it is at, where it has them (this program's own texts).
use Rattle.std.specs.Prelude.{ℕ, List, Option, Some, None, codes}
use Rattle.rp_sheet.specs.declared.fault.TableFault.{TableFault}
use Rattle.rp_sheet.specs.declared.fault.TableFault.TheVariants as fault
use Rattle.rp_rows.specs.declared.fault.Fault.{Fault}
use Rattle.rp_rows.specs.declared.fault.Fault.TheVariants.{OfTable, OwnLevels, NoId, LongId}

abbrev pub table_fault_word : TableFault → List ℕ
table_fault_word fault.Empty = codes "Empty"
table_fault_word (fault.Ragged row) = codes "Ragged"
table_fault_word (fault.BadHeader column) = codes "BadHeader"
table_fault_word (fault.TwiceNamed column) = codes "TwiceNamed"
table_fault_word (fault.Unpaired column) = codes "Unpaired"
table_fault_word fault.TooManyGoods = codes "TooManyGoods"
table_fault_word fault.NoRecords = codes "NoRecords"
table_fault_word fault.TooManyRecords = codes "TooManyRecords"
table_fault_word (fault.BadNumber row column) = codes "BadNumber"
table_fault_word (fault.TooManyDecimals row column) = codes "TooManyDecimals"
table_fault_word (fault.ZeroPrice row column) = codes "ZeroPrice"
table_fault_word (fault.ZeroBundle row) = codes "ZeroBundle"
table_fault_word (fault.TooLarge row column) = codes "TooLarge"
table_fault_word (fault.OtherGoods column) = codes "OtherGoods"
table_fault_word (fault.TooFine row column) = codes "TooFine"
table_fault_word (fault.UnknownBudget row) = codes "UnknownBudget"
table_fault_word (fault.NoChoices budget) = codes "NoChoices"
table_fault_word (fault.BadLevel row column) = codes "BadLevel"
table_fault_word fault.NoMemory = codes "NoMemory"

abbrev pub table_fault_row : TableFault → Option ℕ
table_fault_row (fault.Ragged row) = Some row
table_fault_row (fault.BadNumber row column) = Some row
table_fault_row (fault.TooManyDecimals row column) = Some row
table_fault_row (fault.ZeroPrice row column) = Some row
table_fault_row (fault.ZeroBundle row) = Some row
table_fault_row (fault.TooLarge row column) = Some row
table_fault_row (fault.TooFine row column) = Some row
table_fault_row (fault.UnknownBudget row) = Some row
table_fault_row (fault.BadLevel row column) = Some row
table_fault_row _ = None

abbrev pub table_fault_column : TableFault → Option ℕ
table_fault_column (fault.BadHeader column) = Some column
table_fault_column (fault.TwiceNamed column) = Some column
table_fault_column (fault.Unpaired column) = Some column
table_fault_column (fault.BadNumber row column) = Some column
table_fault_column (fault.TooManyDecimals row column) = Some column
table_fault_column (fault.ZeroPrice row column) = Some column
table_fault_column (fault.TooLarge row column) = Some column
table_fault_column (fault.OtherGoods column) = Some column
table_fault_column (fault.TooFine row column) = Some column
table_fault_column (fault.BadLevel row column) = Some column
table_fault_column _ = None

abbrev pub fault_word : Fault → List ℕ
fault_word (OfTable f) = table_fault_word f
fault_word OwnLevels = codes "OwnLevels"
fault_word (NoId row) = codes "NoId"
fault_word (LongId row) = codes "LongId"

abbrev pub row_of_fault : Fault → Option ℕ
row_of_fault (OfTable f) = table_fault_row f
row_of_fault OwnLevels = None
row_of_fault (NoId row) = Some row
row_of_fault (LongId row) = Some row

abbrev pub column_of_fault : Fault → Option ℕ
column_of_fault (OfTable f) = table_fault_column f
column_of_fault _ = None
