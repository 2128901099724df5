-- What a sheet of numbers says under its form: the first fault of the earliest stage that finds one, and the numbers
-- in its columns (this project's own order of stages).
use Rattle.std.specs.Prelude.{ℕ, List, [], ◌∷◌, ◌++◌, length, Option, None}
use Rattle.std.specs.Prelude.{Some, Result, Ok, Err, unwrap_or, slice_index}
use Rattle.rp_num.specs.Below.{first_there, rows_below, listed}
use Rattle.rp_forms.specs.Texts.{text_at, place_of}
use Rattle.rp_sheet.specs.ChoiceCounts.{column_named, choices_stage}
use Rattle.rp_sheet.specs.Headers.{headers_in, headers_stage, goods_stage}
use Rattle.rp_sheet.specs.Fields.{figures_of, count_stage, fields_stage}
use Rattle.rp_sheet.specs.Sizes.{sizes_stage}
use Rattle.rp_forms.specs.declared.form.Form.{Form}
use Rattle.rp_sheet.specs.declared.fault.TableFault.{TableFault}
use Rattle.rp_sheet.specs.declared.fault.TableFault.TheVariants as fault

-- the first fault of a file with these headers: the headers in order, the goods, the number of records, the
-- records in order, the scaled numbers in order, and the budgets on which nothing was chosen
unfoldable pub fault_under : Form → List (List ℕ) → List (List ℕ) → List (List (List ℕ)) → Option TableFault
fault_under form goods headers records = first_there (
    headers_stage form headers
    ∷ goods_stage form goods headers
    ∷ count_stage form records
    ∷ fields_stage form headers records
    ∷ sizes_stage form headers (figures_of form headers records)
    ∷ choices_stage form headers (figures_of form headers records)
    ∷ [])

-- the first fault of a file, which may have no record at all
unfoldable pub first_fault : Form → List (List ℕ) → List (List (List ℕ)) → Option TableFault
first_fault form goods [] = Some fault.Empty
first_fault form goods (header ∷ rows) = fault_under form goods (headers_in header) (header ∷ rows)

-- a value, where there is no fault
abbrev pub unless_fault : {A : Type 0} → Option TableFault → A → Result A TableFault
unless_fault None value = Ok value
unless_fault (Some f) value = Err f

-- the column of a good
abbrev pub column_of : List ℕ → List (List ℕ) → List (List ℕ) → ℕ → ℕ
column_of mark headers names g = unwrap_or (place_of headers (mark ++ text_at names g)) 0

-- the numbers in the columns of the goods, by record and then good
abbrev pub numbers_under : List ℕ → List (List ℕ) → List (List ℕ) → List (List ℕ) → List ℕ
numbers_under mark headers names sizes =
    rows_below (length sizes) (length names) (λ t g. slice_index (text_at sizes t) (column_of mark headers names g))

-- the numbers in the column with that header, by record
abbrev pub column_numbers : List ℕ → List (List ℕ) → List (List ℕ) → List ℕ
column_numbers header headers sizes =
    listed (length sizes) (λ t. slice_index (text_at sizes t) (column_named header headers))
