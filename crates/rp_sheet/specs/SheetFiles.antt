-- What a file of numbers denotes by its form, the goods that it has to name and the value that its numbers make; and
-- what was read of a file that no stage refuses.
use Rattle.std.specs.Prelude.{◌≡◌, ℕ, List, Result, None}
use Rattle.rp_num.specs.declared.decimal.Decimal.{Decimal}
use Rattle.rp_forms.specs.Columns.{Layout}
use Rattle.rp_forms.specs.declared.form.Form.{Form}
use Rattle.rp_sheet.specs.Headers.{headers_of}
use Rattle.rp_sheet.specs.Sheets.{first_fault, unless_fault}
use Rattle.rp_sheet.specs.Sizes.{sheet_figures, sheet_sizes}
use Rattle.rp_sheet.specs.declared.fault.TableFault.{TableFault}

-- what records denote: the value of their numbers under their headers, or their first fault
unfoldable pub denoted_by : {A : Type 0} → Form → List (List ℕ) → (List (List ℕ) → List (List Decimal) → A)
    → List (List (List ℕ)) → Result A TableFault
denoted_by form goods value records =
    unless_fault (first_fault form goods records) (value (headers_of records) (sheet_figures form records))

-- columns, numbers and scaled numbers are those of these records, which no stage refuses
pub record IsReadFrom (form : Form) (goods : List (List ℕ)) (records : List (List (List ℕ))) (columns : Layout)
    (figures : List (List Decimal)) (sizes : List (List ℕ)) : Type 0 where
  pub kind : columns.form ≡ form
  pub headers : columns.headers ≡ headers_of records
  pub numbers : figures ≡ sheet_figures form records
  pub scaled : sizes ≡ sheet_sizes form records
  pub faultless : first_fault form goods records ≡ None

-- they are those of some records
abbrev pub IsFaultlessSheet : Form → List (List ℕ) → Layout → List (List Decimal) → List (List ℕ) → Type 0
IsFaultlessSheet form goods columns figures sizes =
    (records : List (List (List ℕ))) × IsReadFrom form goods records columns figures sizes
