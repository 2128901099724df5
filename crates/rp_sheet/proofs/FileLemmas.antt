-- What the first records of a file say is what the file denotes.
use Rattle.std.proofs.Common.{◌≡◌, ℕ, ◌+◌, List, length, take, Some, None, Ok, Err, refl, sym, ap, ◌∙◌, subst}
use Rattle.std.specs.List.{All}
use Rattle.rp_num.specs.declared.decimal.Decimal.{Decimal}
use Rattle.rp_forms.specs.Columns.{Layout}
use Rattle.rp_forms.specs.declared.form.Form.{Form}
use Rattle.rp_sheet.specs.Headers.{headers_of}
use Rattle.rp_sheet.specs.SheetFiles.{IsReadFrom, denoted_by}
use Rattle.rp_sheet.specs.Sheets.{first_fault}
use Rattle.rp_sheet.specs.Sizes.{sheet_figures, sheet_sizes, sizes_of}
use Rattle.rp_sheet.specs.declared.fault.TableFault.{TableFault}
use Rattle.rp_sheet.proofs.FigureLemmas.{whole_rows}
use Rattle.rp_sheet.proofs.StageLemmas.{fault_denoted, first_records, same_fault, value_denoted}

-- what holds of what records say holds of what was read from them
pub of_read : {form : Form} {goods : List (List ℕ)} {records : List (List (List ℕ))} {columns : Layout} {figures : List (List Decimal)} {sizes : List (List ℕ)}
    (P : List (List ℕ) → List (List Decimal) → List (List ℕ) → Type 0) → IsReadFrom form goods records columns figures sizes → P (headers_of records) (sheet_figures form records) (sheet_sizes form records) → P columns.headers figures sizes
of_read {form} {records = records} {columns} {figures} P read there =
    subst (P columns.headers figures) (sym read.scaled)
    (subst (λ f. P columns.headers f (sheet_sizes form records)) (sym read.numbers) (subst (λ h. P h (sheet_figures form records) (sheet_sizes form records)) (sym read.headers) there))

-- the scaled numbers are those of the numbers
pub scaled_numbers : {form : Form} {goods : List (List ℕ)} {records : List (List (List ℕ))} {columns : Layout} {figures : List (List Decimal)} {sizes : List (List ℕ)} → IsReadFrom form goods records columns figures sizes
    → sizes ≡ sizes_of form columns.headers figures
scaled_numbers {form} read = of_read (λ h f s. s ≡ sizes_of form h f) read refl

-- the rows of a sheet have the length of its headers
pub whole_sheet : {form : Form} {goods : List (List ℕ)} {records : List (List (List ℕ))} {columns : Layout} {figures : List (List Decimal)} {sizes : List (List ℕ)} → IsReadFrom form goods records columns figures sizes
    → All (λ row. length row ≡ length columns.headers) figures
whole_sheet {form} {records = records} read = of_read (λ h f s. All (λ row. length row ≡ length h) f) read (whole_rows form (headers_of records) records)

-- a sheet under other names of its goods, its numbers and its scaled numbers
pub read_as : {form : Form} {goods given : List (List ℕ)} {records : List (List (List ℕ))} {columns : Layout} {figures numbers : List (List Decimal)} {sizes scaled : List (List ℕ)} → given ≡ goods → numbers ≡ figures → scaled ≡ sizes
    → IsReadFrom form goods records columns figures sizes → IsReadFrom form given records columns numbers scaled
read_as {form} {given = given} {records} {columns} {figures} {sizes = sizes} {scaled} named same_numbers same_sizes read =
    subst (λ n. IsReadFrom form given records columns n scaled) (sym same_numbers)
    (subst (λ s. IsReadFrom form given records columns figures s) (sym same_sizes) (subst (λ g. IsReadFrom form g records columns figures sizes) (sym named) read))

module _ {A : Type 0} (form : Form) (goods : List (List ℕ)) (value : List (List ℕ) → List (List Decimal) → A) where
  -- a file without a fault denotes its value, and a file with a fault the first
  pub denoted_value : (records : List (List (List ℕ))) → first_fault form goods records ≡ None → denoted_by form goods value records ≡ Ok (value (headers_of records) (sheet_figures form records))
  unfolding denoted_by
  denoted_value records none = value_denoted (first_fault form goods records) _ none

  pub denoted_fault : (records : List (List (List ℕ))) (e : TableFault) → first_fault form goods records ≡ Some e → denoted_by form goods value records ≡ Err e
  unfolding denoted_by
  denoted_fault records e faulty = fault_denoted (first_fault form goods records) _ e faulty

  -- as do as many of its first records as the form takes, the headers and one more
  pub first_denoted : (records : List (List (List ℕ))) → denoted_by form goods value (take (form.most + 2) records) ≡ denoted_by form goods value records
  unfolding denoted_by
  first_denoted records = first_records form goods (λ rows. value (headers_of rows) (sheet_figures form rows)) records

  -- what was read of records without a fault makes what they denote
  pub value_of_read : (records : List (List (List ℕ))) (columns : Layout) (figures : List (List Decimal)) (sizes : List (List ℕ)) → IsReadFrom form goods records columns figures sizes
      → denoted_by form goods value records ≡ Ok (value columns.headers figures)
  value_of_read records columns figures sizes read =
      of_read (λ h f _. denoted_by form goods value records ≡ Ok (value h f)) read (denoted_value records read.faultless)

-- a sheet under other names of its form and its goods
pub read_from : (form kind : Form) (given goods : List (List ℕ)) (records : List (List (List ℕ))) (columns : Layout) (figures : List (List Decimal)) (sizes : List (List ℕ)) → form ≡ kind → given ≡ goods → columns.form ≡ form → columns.headers ≡ headers_of records
    → figures ≡ sheet_figures form records → sizes ≡ sheet_sizes form records → first_fault form given records ≡ None → IsReadFrom kind goods records columns figures sizes
read_from form kind given goods records columns figures sizes is named of_form headed numbers scaled none = record {
  kind = of_form ∙ is;
  headers = headed;
  numbers = numbers ∙ ap (λ (f : Form). sheet_figures f records) is;
  scaled = scaled ∙ ap (λ (f : Form). sheet_sizes f records) is;
  faultless = same_fault records None is named none;
}
