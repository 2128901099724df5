-- The numbers of a file as whole numbers: each times a power of ten, which the columns of one role share.
use Rattle.std.specs.Prelude.{ℕ, ◌+◌, ◌-◌, ◌*◌, ◌^◌, nat_lt, if◌then◌else◌, List, [], length}
use Rattle.std.specs.Prelude.{slice_index_or, Option, Result, Ok, Err}
use Rattle.std.specs.Result.{result_err, result_unwrap_or}
use Rattle.rp_num.specs.declared.decimal.Decimal.{Decimal}
use Rattle.rp_num.specs.Below.{first_of, greatest_below, listed}
use Rattle.rp_forms.specs.Texts.{number_of}
use Rattle.rp_forms.specs.Columns.{role_at}
use Rattle.rp_sheet.specs.Fields.{nothing, figures_of}
use Rattle.rp_sheet.specs.Headers.{headers_of}
use Rattle.rp_forms.specs.Columns.{limit_of, shares_scale}
use Rattle.rp_forms.specs.declared.form.Form.{Form}
use Rattle.rp_forms.specs.declared.form.Marks.{Marks}
use Rattle.rp_forms.specs.declared.form.Role.{Role}
use Rattle.rp_forms.specs.declared.form.Role.TheVariants.{Observation, Price, Quantity, Expenditure, Income, Budget}
use Rattle.rp_forms.specs.declared.form.Role.TheVariants.{Times, Output, OutputPrice, Menu, Choice, OwnLevel}
use Rattle.rp_sheet.specs.declared.fault.TableFault.{TableFault}
use Rattle.rp_sheet.specs.declared.fault.TableFault.TheVariants as fault

-- the number at a record and a column of these
abbrev pub figure_at : List (List Decimal) → ℕ → ℕ → Decimal
figure_at figures t c = slice_index_or (slice_index_or figures t []) c nothing

-- the greatest number of places in the columns of a role
unfoldable pub greatest_places : Marks → List (List ℕ) → List (List Decimal) → Role → ℕ
greatest_places marks headers figures role =
    greatest_below (length figures)
    (λ t. greatest_below (length headers)
    (λ c. if shares_scale role (role_at marks headers c) then (figure_at figures t c).places else 0))

-- the places of the scale of a role: the greatest in the file, or for quantities the fixed one. An
-- expenditure is a sum of prices times quantities
unfoldable pub places_of : Form → List (List ℕ) → List (List Decimal) → Role → ℕ
places_of form headers figures Observation = 0
places_of form headers figures Price = greatest_places form.marks headers figures Price
places_of form headers figures Quantity = if form.fixed_places then form.places
    else greatest_places form.marks headers figures Quantity
places_of form headers figures Expenditure = greatest_places form.marks headers figures Price + form.places
places_of form headers figures Income = greatest_places form.marks headers figures Income
places_of form headers figures Budget = 0
places_of form headers figures Times = 0
places_of form headers figures Output = if form.fixed_places then form.places
    else greatest_places form.marks headers figures Quantity
places_of form headers figures OutputPrice = greatest_places form.marks headers figures Price
places_of form headers figures Menu = 0
places_of form headers figures Choice = 0
places_of form headers figures OwnLevel = 0

-- a number at a scale with that many places: it has no more places, and is at most the limit
abbrev pub size_of : Decimal → ℕ → ℕ → ℕ → ℕ → Result ℕ TableFault
size_of d places limit row column =
    if nat_lt places d.places then Err (fault.TooFine row column)
    else if nat_lt limit (d.units * 10 ^ (places - d.places)) then Err (fault.TooLarge row column)
    else Ok (d.units * 10 ^ (places - d.places))

-- the scaled number at a record and a column, or its fault
unfoldable pub size_at : Form → List (List ℕ) → List (List Decimal) → ℕ → ℕ → Result ℕ TableFault
size_at form headers figures t c =
    size_of (figure_at figures t c) (places_of form headers figures (role_at form.marks headers c))
    (limit_of (role_at form.marks headers c)) (number_of t) (number_of c)

-- the scaled number at a record and a column
abbrev pub scaled : Form → List (List ℕ) → List (List Decimal) → ℕ → ℕ → ℕ
scaled form headers figures t c = result_unwrap_or (size_at form headers figures t c) 0

-- the scaled numbers of all records
abbrev pub sizes_of : Form → List (List ℕ) → List (List Decimal) → List (List ℕ)
sizes_of form headers figures = listed (length figures) (λ t. listed (length headers) (scaled form headers figures t))

-- the numbers and the scaled numbers that records of this kind of file hold under their headers
abbrev pub sheet_figures : Form → List (List (List ℕ)) → List (List Decimal)
sheet_figures form records = figures_of form (headers_of records) records

abbrev pub sheet_sizes : Form → List (List (List ℕ)) → List (List ℕ)
sheet_sizes form records = sizes_of form (headers_of records) (sheet_figures form records)

-- the records in order, and in each the columns in order
unfoldable pub sizes_stage : Form → List (List ℕ) → List (List Decimal) → Option TableFault
sizes_stage form headers figures =
    first_of (length figures) (λ t. first_of (length headers) (λ c. result_err (size_at form headers figures t c)))
