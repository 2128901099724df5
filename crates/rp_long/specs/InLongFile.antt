-- The fault of a part of a long file, told with the record and the column of the long file.
use Rattle.std.specs.Prelude.{ℕ, ◌-◌, ◌==◌, if◌then◌else◌, List, slice_index_or, Result, Ok, Err}
use Rattle.rp_forms.specs.Texts.{number_of}
use Rattle.rp_sheet.specs.declared.fault.TableFault.{TableFault}
use Rattle.rp_sheet.specs.declared.fault.TableFault.TheVariants as fault

-- the number in the long file of a record of a part that has these records, from 0
abbrev pub record_in : List ℕ → ℕ → ℕ
record_in rows row = number_of (slice_index_or rows (row - 1) 0)

-- the same of a column, where 0 stands for a column that is missing
abbrev pub column_in : List ℕ → ℕ → ℕ
column_in columns column = if column == 0 then 0 else number_of (slice_index_or columns (column - 1) 0)

-- the same of a fault
unfoldable pub in_long_file : List ℕ → List ℕ → TableFault → TableFault
in_long_file rows columns fault.Empty = fault.Empty
in_long_file rows columns (fault.Ragged row) = fault.Ragged (record_in rows row)
in_long_file rows columns (fault.BadHeader column) = fault.BadHeader (column_in columns column)
in_long_file rows columns (fault.TwiceNamed column) = fault.TwiceNamed (column_in columns column)
in_long_file rows columns (fault.Unpaired column) = fault.Unpaired (column_in columns column)
in_long_file rows columns fault.TooManyGoods = fault.TooManyGoods
in_long_file rows columns fault.NoRecords = fault.NoRecords
in_long_file rows columns fault.TooManyRecords = fault.TooManyRecords
in_long_file rows columns (fault.BadNumber row column) =
    fault.BadNumber (record_in rows row) (column_in columns column)
in_long_file rows columns (fault.TooManyDecimals row column) =
    fault.TooManyDecimals (record_in rows row) (column_in columns column)
in_long_file rows columns (fault.ZeroPrice row column) =
    fault.ZeroPrice (record_in rows row) (column_in columns column)
in_long_file rows columns (fault.ZeroBundle row) = fault.ZeroBundle (record_in rows row)
in_long_file rows columns (fault.TooLarge row column) =
    fault.TooLarge (record_in rows row) (column_in columns column)
in_long_file rows columns (fault.OtherGoods column) = fault.OtherGoods (column_in columns column)
in_long_file rows columns (fault.TooFine row column) = fault.TooFine (record_in rows row) (column_in columns column)
in_long_file rows columns (fault.UnknownBudget row) = fault.UnknownBudget (record_in rows row)
in_long_file rows columns (fault.NoChoices budget) = fault.NoChoices budget
in_long_file rows columns (fault.BadLevel row column) = fault.BadLevel (record_in rows row) (column_in columns column)
in_long_file rows columns fault.NoMemory = fault.NoMemory

-- what a part of a long file denotes, with its fault told so
abbrev pub denoted_in_long_file : {A : Type 0} → List ℕ → List ℕ → Result A TableFault → Result A TableFault
denoted_in_long_file rows columns (Ok value) = Ok value
denoted_in_long_file rows columns (Err f) = Err (in_long_file rows columns f)
