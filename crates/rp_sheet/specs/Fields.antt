-- The first fault in the records of a file: their number, a record of another length than the headers, a
-- field that is not a number of its column's kind, and a record by which nothing is bought.
use Rattle.std.specs.Prelude.{ℕ, ◌+◌, ◌-◌, Bool, not, ◌&&◌, ◌==◌, nat_le, nat_lt, if◌then◌else◌, List, length, Option}
use Rattle.std.specs.Prelude.{◌≡◌, ◌≢◌, None, Some, Result, Ok, Err, IfErr}
use Rattle.std.specs.Option.{option_or}
use Rattle.std.specs.Result.{result_err, result_unwrap_or}
use Rattle.rp_num.specs.Decimal.{decimal_of}
use Rattle.rp_num.specs.declared.decimal.Decimal.{Decimal}
use Rattle.rp_num.specs.declared.decimal.NumFault.{NumFault}
use Rattle.rp_num.specs.declared.decimal.NumFault.TheVariants.{Bad, Decimals}
use Rattle.rp_num.specs.Below.{first_of, any_below, listed}
use Rattle.rp_limits.specs.declared.table.TheConstants.{LEVEL_SCALE}
use Rattle.rp_forms.specs.Texts.{trimmed, text_at, number_of}
use Rattle.rp_sheet.specs.Records.{record_at}
use Rattle.rp_forms.specs.Columns.{role_at, measures}
use Rattle.rp_forms.specs.declared.form.Form.{Form}
use Rattle.rp_forms.specs.declared.form.Marks.{Marks}
use Rattle.rp_forms.specs.declared.form.Role.{Role}
use Rattle.rp_forms.specs.declared.form.Role.TheVariants.{Observation, Price, Quantity, Expenditure, Income, Budget}
use Rattle.rp_forms.specs.declared.form.Role.TheVariants.{Times, Output, OutputPrice, Menu, Choice, OwnLevel}
use Rattle.rp_sheet.specs.declared.fault.TableFault.{TableFault}
use Rattle.rp_sheet.specs.declared.fault.TableFault.TheVariants as fault

-- a number with at most six places
abbrev pub measured : Result Decimal NumFault → ℕ → ℕ → Result Decimal TableFault
measured (Ok d) row column = Ok d
measured (Err Bad) row column = Err (fault.BadNumber row column)
measured (Err Decimals) row column = Err (fault.TooManyDecimals row column)

-- a price: a number that is not 0
abbrev pub priced : Result Decimal TableFault → ℕ → ℕ → Result Decimal TableFault
priced (Ok d) row column = if d.units == 0 then Err (fault.ZeroPrice row column) else Ok d
priced (Err e) row column = Err e

-- a whole number
abbrev pub whole : Result Decimal NumFault → ℕ → ℕ → Result Decimal TableFault
whole (Ok d) row column = if d.places == 0 then Ok d else Err (fault.BadNumber row column)
whole (Err e) row column = Err (fault.BadNumber row column)

-- a number from 1 to the most, or else that fault
abbrev pub from_one : ℕ → TableFault → Result Decimal TableFault → Result Decimal TableFault
from_one most otherwise (Ok d) = if nat_le 1 d.units && nat_le d.units most then Ok d else Err otherwise
from_one most otherwise (Err e) = Err e

-- no number
abbrev pub nothing : Decimal
nothing = record { units = 0; places = 0 }

-- what a field says in a column of that role, or its fault
unfoldable pub field_of : ℕ → Role → List ℕ → ℕ → ℕ → Result Decimal TableFault
field_of budgets Observation text row column = Ok nothing
field_of budgets Price text row column = priced (measured (decimal_of text) row column) row column
field_of budgets Quantity text row column = measured (decimal_of text) row column
field_of budgets Expenditure text row column = measured (decimal_of text) row column
field_of budgets Income text row column = measured (decimal_of text) row column
field_of budgets Budget text row column =
    from_one budgets (fault.UnknownBudget row) (whole (decimal_of text) row column)
field_of budgets Times text row column = whole (decimal_of text) row column
field_of budgets Output text row column = measured (decimal_of text) row column
field_of budgets OutputPrice text row column = priced (measured (decimal_of text) row column) row column
field_of budgets Menu text row column = Ok nothing
field_of budgets Choice text row column = Ok nothing
field_of budgets OwnLevel text row column =
    from_one LEVEL_SCALE (fault.BadLevel row column) (whole (decimal_of text) row column)

-- the t-th record after the headers, from 0
abbrev pub row_at : List (List (List ℕ)) → ℕ → List (List ℕ)
row_at records t = record_at records (t + 1)

-- how many records stand after the headers
abbrev pub rows_in : List (List (List ℕ)) → ℕ
rows_in records = length records - 1

-- what the field at a record and a column says, or its fault
unfoldable pub field_at : Form → List (List ℕ) → List (List (List ℕ)) → ℕ → ℕ → Result Decimal TableFault
field_at form headers records t c =
    field_of form.budgets (role_at form.marks headers c) (trimmed (text_at (row_at records t) c))
    (number_of t) (number_of c)

-- the number at a record and a column
abbrev pub figure : Form → List (List ℕ) → List (List (List ℕ)) → ℕ → ℕ → Decimal
figure form headers records t c = result_unwrap_or (field_at form headers records t c) nothing

-- the numbers of all records
abbrev pub figures_of : Form → List (List ℕ) → List (List (List ℕ)) → List (List Decimal)
figures_of form headers records =
    listed (rows_in records) (λ t. listed (length headers) (figure form headers records t))

-- whether some column says how much is bought, and each says 0
abbrev pub buys_nothing : Marks → List (List ℕ) → (ℕ → Decimal) → Bool
buys_nothing marks headers figures =
    any_below (length headers) (λ c. measures (role_at marks headers c))
    && not (any_below (length headers) (λ c. measures (role_at marks headers c) && nat_lt 0 (figures c).units))

-- what the records of a kind are refused for: a fault that files of every kind have, that of a field, and that of a
-- record by all its fields
pub record RecordFaults (F : Type 0) : Type 0 where
  pub told : TableFault → F
  pub field_fault : Form → List (List ℕ) → List (List (List ℕ)) → ℕ → ℕ → Option F
  pub rest_fault : Form → List (List ℕ) → List (List (List ℕ)) → ℕ → Option F

-- the fault of the t-th record: its length, then its columns in order, then the rest
abbrev pub fault_in_record : {F : Type 0} → RecordFaults F
    → Form → List (List ℕ) → List (List (List ℕ)) → ℕ → Option F
fault_in_record faults form headers records t =
    if not (length (row_at records t) == length headers) then Some (faults.told (fault.Ragged (number_of t)))
    else option_or (first_of (length headers) (faults.field_fault form headers records t))
    (faults.rest_fault form headers records t)

-- the records in order
abbrev pub fault_in_records : {F : Type 0} → RecordFaults F
    → Form → List (List ℕ) → List (List (List ℕ)) → Option F
fault_in_records faults form headers records =
    first_of (rows_in records) (fault_in_record faults form headers records)

-- refused with the fault of this stage, or for want of memory
abbrev pub RefusedIn : {A F : Type 0} → RecordFaults F → Result A F → Option F → Type 0
RefusedIn faults result stage = IfErr result (λ e. e ≢ faults.told fault.NoMemory → stage ≡ Some e)

-- in records of numbers: a field that is refused, and that nothing is bought
abbrev pub number_faults : RecordFaults TableFault
number_faults = record {
  told = λ f. f;
  field_fault = λ form headers records t c. result_err (field_at form headers records t c);
  rest_fault = λ form headers records t.
      if buys_nothing form.marks headers (figure form headers records t) then Some (fault.ZeroBundle (number_of t))
      else None;
}

unfoldable pub record_fault : Form → List (List ℕ) → List (List (List ℕ)) → ℕ → Option TableFault
record_fault form headers records t = fault_in_record number_faults form headers records t

-- no record, or more than the limit
unfoldable pub count_stage : Form → List (List (List ℕ)) → Option TableFault
count_stage form records =
    if rows_in records == 0 then Some fault.NoRecords
    else if nat_lt form.most (rows_in records) then Some fault.TooManyRecords
    else None

-- the records in order
unfoldable pub fields_stage : Form → List (List ℕ) → List (List (List ℕ)) → Option TableFault
fields_stage form headers records = first_of (rows_in records) (record_fault form headers records)
