-- What a file of choices from menus denotes: its menus, or the first fault of the earliest stage that finds one (this
-- project's own order of stages).
use Rattle.std.specs.Prelude.{◌≡◌, ◌≢◌, ℕ, ◌+◌, ◌&&◌, Bool, false, true, not, nat_lt}
use Rattle.std.specs.Prelude.{if◌then◌else◌, List, [], ◌∷◌}
use Rattle.std.specs.Prelude.{codes, length, slice_index, Option, None, Some, Result, Ok, Err, IfErr}
use Rattle.std.specs.Option.{option_map, option_or}
use Rattle.std.specs.Result.{result_err}
use Rattle.rp_num.specs.Below.{any_below, first_of, first_there, listed}
use Rattle.rp_limits.specs.declared.menu.TheConstants.{CELLS}
use Rattle.rp_sheet.specs.ChoiceCounts.{column_named}
use Rattle.rp_forms.specs.Columns.{role_at}
use Rattle.rp_sheet.specs.Fields.{RecordFaults, count_stage, fault_in_record, field_at, figures_of, row_at, rows_in}
use Rattle.rp_forms.specs.Forms.{menus_form}
use Rattle.rp_sheet.specs.Headers.{goods_stage, headers_in, headers_of, headers_stage}
use Rattle.rp_sheet.specs.Records.{records_in}
use Rattle.rp_sheet.specs.Sheets.{column_numbers}
use Rattle.rp_sheet.specs.Sizes.{sizes_of, sizes_stage}
use Rattle.rp_forms.specs.Texts.{number_of, text_at}
use Rattle.rp_sheet.specs.declared.fault.TableFault.{TableFault}
use Rattle.rp_sheet.specs.declared.fault.TableFault.TheVariants as table_fault
use Rattle.rp_forms.specs.declared.form.Form.{Form}
use Rattle.rp_forms.specs.declared.form.Role.{Role}
use Rattle.rp_forms.specs.declared.form.Role.TheVariants.{Observation, Price, Quantity, Expenditure, Income, Budget}
use Rattle.rp_forms.specs.declared.form.Role.TheVariants.{Times, Output, OutputPrice, Menu, Choice, OwnLevel}
use Rattle.rp_menu.specs.Cells.{cells_below, menu_row_at, menu_list}
use Rattle.rp_menu.specs.MenuLists.{MenuList}
use Rattle.rp_menu.specs.MenuTexts.{is_choice, is_menu, letter_in, number_of_menu}
use Rattle.rp_menu.specs.declared.menu_row.MenuRow.{MenuRow}
use Rattle.rp_menu.specs.declared.fault.MenuFault.{MenuFault}
use Rattle.rp_menu.specs.declared.fault.MenuFault.TheVariants as fault

-- the fault of a sheet as one of a file of menus. Those of goods, budgets and levels come in no such file
abbrev pub told : TableFault → MenuFault
told table_fault.Empty = fault.Empty
told (table_fault.Ragged row) = fault.Ragged row
told (table_fault.BadHeader column) = fault.BadHeader column
told (table_fault.TwiceNamed column) = fault.TwiceNamed column
told (table_fault.Unpaired column) = fault.Unpaired column
told table_fault.TooManyGoods = fault.NoMemory
told table_fault.NoRecords = fault.NoRecords
told table_fault.TooManyRecords = fault.TooManyRecords
told (table_fault.BadNumber row column) = fault.BadNumber row column
told (table_fault.TooManyDecimals row column) = fault.TooManyDecimals row column
told (table_fault.ZeroPrice row column) = fault.NoMemory
told (table_fault.ZeroBundle row) = fault.NoMemory
told (table_fault.TooLarge row column) = fault.TooLarge row column
told (table_fault.OtherGoods column) = fault.NoMemory
told (table_fault.TooFine row column) = fault.NoMemory
told (table_fault.UnknownBudget row) = fault.NoMemory
told (table_fault.NoChoices budget) = fault.NoMemory
told (table_fault.BadLevel row column) = fault.NoMemory
told table_fault.NoMemory = fault.NoMemory

-- whether the fields of a column are menus
abbrev pub is_of_menus : Role → Bool
is_of_menus Observation = false
is_of_menus Price = false
is_of_menus Quantity = false
is_of_menus Expenditure = false
is_of_menus Income = false
is_of_menus Budget = false
is_of_menus Times = false
is_of_menus Output = false
is_of_menus OutputPrice = false
is_of_menus Menu = true
is_of_menus Choice = false
is_of_menus OwnLevel = false

-- the text at a record in the column with that header, with the blanks round it
abbrev pub text_under : List ℕ → List (List ℕ) → List (List (List ℕ)) → ℕ → List ℕ
text_under header headers records t = text_at (row_at records t) (column_named header headers)

-- whether the field of a column of menus is none
abbrev pub lacks_menu : Role → List ℕ → Bool
lacks_menu role text = is_of_menus role && not (is_menu text)

abbrev pub menu_fault : Form → List (List ℕ) → List (List (List ℕ)) → ℕ → ℕ → Option MenuFault
menu_fault form headers records t c =
    if lacks_menu (role_at form.marks headers c) (text_at (row_at records t) c) then Some (fault.BadMenu (number_of t))
    else None

-- the fault of the field at a record and a column
unfoldable pub column_fault : Form → List (List ℕ) → List (List (List ℕ)) → ℕ → ℕ → Option MenuFault
column_fault form headers records t c =
    option_or (option_map told (result_err (field_at form headers records t c))) (menu_fault form headers records t c)

-- what was chosen is not one letter of the menu
unfoldable pub choice_fault : List (List ℕ) → List (List (List ℕ)) → ℕ → Option MenuFault
choice_fault headers records t =
    if is_choice (text_under (codes "menu") headers records t) (text_under (codes "choice") headers records t) then None
    else Some (fault.BadChoice (number_of t))

-- what a record is refused for: its length, then its columns in order, then what was chosen
abbrev pub menu_faults : RecordFaults MenuFault
menu_faults = record { told = told; field_fault = column_fault; rest_fault = λ _. choice_fault }

unfoldable pub menu_row_fault : List (List ℕ) → List (List (List ℕ)) → ℕ → Option MenuFault
menu_row_fault headers records t = fault_in_record menu_faults menus_form headers records t

-- the records in order
unfoldable pub menu_rows_stage : List (List ℕ) → List (List (List ℕ)) → Option MenuFault
menu_rows_stage headers records = first_of (rows_in records) (menu_row_fault headers records)

-- what the t-th record says, under these counts
abbrev pub menu_row_of : List (List ℕ) → List (List (List ℕ)) → List ℕ → ℕ → MenuRow
menu_row_of headers records times t = record {
  menu = number_of_menu (text_under (codes "menu") headers records t);
  letter = letter_in (text_under (codes "choice") headers records t);
  times = slice_index times t;
}

-- the counts of all records, and what they say
abbrev pub times_in : List (List ℕ) → List (List (List ℕ)) → List ℕ
times_in headers records =
    column_numbers (codes "n") headers (sizes_of menus_form headers (figures_of menus_form headers records))

abbrev pub menu_rows_in : List (List ℕ) → List (List (List ℕ)) → List MenuRow
menu_rows_in headers records =
    listed (rows_in records) (menu_row_of headers records (times_in headers records))

-- no count is positive
unfoldable pub menus_stage : List MenuRow → Option MenuFault
menus_stage menu_rows =
    if any_below (length menu_rows) (λ t. nat_lt 0 (menu_row_at menu_rows t).times) then None else Some fault.NoMenus

-- the first record with which there are more cells than the limit
unfoldable pub cells_stage : List MenuRow → Option MenuFault
cells_stage menu_rows =
    first_of (length menu_rows)
    (λ t. if nat_lt CELLS (length (cells_below menu_rows (t + 1))) then Some (fault.TooManyCells (number_of t))
    else None)

-- the first fault of a sheet with these headers: the headers in order, a missing column, the number of records, the
-- records in order, and the counts
unfoldable pub fault_under : List (List ℕ) → List (List (List ℕ)) → Option MenuFault
fault_under headers records = first_there (
    option_map told (headers_stage menus_form headers)
    ∷ option_map told (goods_stage menus_form [] headers)
    ∷ option_map told (count_stage menus_form records)
    ∷ menu_rows_stage headers records
    ∷ option_map told (sizes_stage menus_form headers (figures_of menus_form headers records))
    ∷ [])

-- the same of a file, which may have no record at all
unfoldable pub sheet_fault : List (List (List ℕ)) → Option MenuFault
sheet_fault [] = Some fault.Empty
sheet_fault (header ∷ rows) = fault_under (headers_in header) (header ∷ rows)

-- the first fault of a file: those of a sheet, and then of what its records come to
abbrev pub first_fault : List (List (List ℕ)) → Option MenuFault
first_fault records = first_there (
    sheet_fault records
    ∷ menus_stage (menu_rows_in (headers_of records) records)
    ∷ cells_stage (menu_rows_in (headers_of records) records)
    ∷ [])

-- a value, where there is no fault
abbrev pub unless_fault : {A : Type 0} → Option MenuFault → A → Result A MenuFault
unless_fault None value = Ok value
unless_fault (Some f) value = Err f

-- what records denote
unfoldable pub denoted_menus : List (List (List ℕ)) → Result MenuList MenuFault
denoted_menus records = unless_fault (first_fault records) (menu_list (menu_rows_in (headers_of records) records))

-- what the bytes of a file denote
abbrev pub menus_in : List ℕ → Result MenuList MenuFault
menus_in bytes = denoted_menus (records_in bytes)

-- refused with the fault of a stage, or with the one that is denoted; or for want of memory, which has no cause in a
-- file
abbrev pub RefusedAt : {A : Type 0} → Result A MenuFault → Option MenuFault → Type 0
RefusedAt result stage = IfErr result (λ e. e ≢ fault.NoMemory → stage ≡ Some e)

abbrev pub RefusedAs : {A B : Type 0} → Result A MenuFault → Result B MenuFault → Type 0
RefusedAs result denoted = IfErr result (λ e. e ≢ fault.NoMemory → denoted ≡ Err e)
