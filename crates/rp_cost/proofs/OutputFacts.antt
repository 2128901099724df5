-- The outputs in records without a fault, and the prices of the output.
use Rattle.std.proofs.Common.{◌≡◌, ℕ, ◌<◌, ◌≤◌, true, List, length, slice_index, Some, None, Ok, refl, ap, ◌∙◌, subst, arith}
use Rattle.std.specs.Prelude.{codes, unwrap_or}
use Rattle.std.specs.List.{All}
use Rattle.rp_num.specs.Decimal.{decimal_of}
use Rattle.rp_table.specs.Limits.{IsPrice, IsQuantity}
use Rattle.rp_sheet.specs.ChoiceCounts.{column_named}
use Rattle.rp_forms.specs.Columns.{role_of, named_role, role_at}
use Rattle.rp_sheet.specs.Fields.{field_at, field_of, fields_stage, figure, figures_of, measured, nothing, row_at, rows_in}
use Rattle.rp_sheet.specs.Headers.{has}
use Rattle.rp_sheet.specs.Sheets.{column_numbers}
use Rattle.rp_sheet.specs.Sizes.{figure_at, sizes_stage}
use Rattle.rp_forms.specs.Columns.{limit_of}
use Rattle.rp_forms.specs.Texts.{number_of, text_at, trimmed}
use Rattle.rp_forms.specs.declared.form.Form.{Form}
use Rattle.rp_forms.specs.declared.form.Marks.{Marks}
use Rattle.rp_forms.specs.declared.form.Role.{Role}
use Rattle.rp_forms.specs.declared.form.Role.TheVariants.{Output, OutputPrice}
use Rattle.rp_sheet.proofs.ColumnSizes.{sizes_are, sizes_in, some_at, within_limit}
use Rattle.rp_sheet.proofs.FieldFaults.{role_is}
use Rattle.rp_sheet.proofs.FigureLemmas.{figure_there, good_record, some_units}
use Rattle.rp_sheet.proofs.FineHeaders.{column_there}
use Rattle.rp_sheet.proofs.PlaceLemmas.{fine, none_below}
use Rattle.rp_num.proofs.RowsBelow.{all_listed}
use Rattle.std.specs.Result.{result_err}

output_says : (marks : Marks) → role_of marks (codes "y") ≡ Some Output
unfolding role_of named_role
output_says marks = refl

output_price_says : (marks : Marks) → role_of marks (codes "p") ≡ Some OutputPrice
unfolding role_of named_role
output_price_says marks = refl

module _ (form : Form) (headers : List (List ℕ)) (records : List (List (List ℕ))) (fine_fields : fields_stage form headers records ≡ None) (fine_sizes : sizes_stage form headers (figures_of form headers records) ≡ None) where
  -- a scaled number in the column with this header is within the limit of its role
  at_most : (header : List ℕ) (role : Role) → role_of form.marks header ≡ Some role → has headers header ≡ true → (t : ℕ) → t < rows_in records
      → slice_index (text_at (sizes_in form headers records) t) (column_named header headers) ≤ limit_of role
  at_most header role says there t row =
      let column = column_there headers header there in
      let here : role_at form.marks headers column.0 ≡ role = role_is _ headers column.0 role (ap (role_of form.marks) column.3 ∙ says) in
      let at_column : column_named header headers ≡ column.0 = ap (λ o. unwrap_or o 0) column.2 in
      let most = subst (λ (r : Role). slice_index (text_at (sizes_in form headers records) t) column.0 ≤ limit_of r) here (within_limit form headers records fine_fields fine_sizes t column.0 row column.1) in
      rw at_column most

  pub outputs_within : has headers (codes "y") ≡ true → All IsQuantity (column_numbers (codes "y") headers (sizes_in form headers records))
  outputs_within there =
      all_listed IsQuantity (length (sizes_in form headers records)) _
      (λ t row. at_most (codes "y") Output (output_says form.marks) there t (omega (arith, sizes_are form headers records)))

  -- a price of the output is not 0
  price_units : (t c : ℕ) → t < rows_in records → c < length headers → role_of form.marks (text_at headers c) ≡ Some OutputPrice → 1 ≤ (figure_at (figures_of form headers records) t c).units
  unfolding field_at field_of
  price_units t c row column says =
      let ok = fine (field_at form headers records t c) nothing (none_below (λ k. result_err (field_at form headers records t k)) (length headers) c (good_record form headers records t row fine_fields).0 column) in
      let price = subst (λ (role : Role). field_of form.budgets role (trimmed (text_at (row_at records t) c)) (number_of t) (number_of c) ≡ Ok (figure form headers records t c)) (role_is _ headers c OutputPrice says) ok in
      let some = some_units (measured (decimal_of (trimmed (text_at (row_at records t) c))) (number_of t) (number_of c)) (number_of t) (number_of c) (figure form headers records t c) price in
      rw (figure_there form headers records t c row column) some

  price_positive : has headers (codes "p") ≡ true → (t : ℕ) → t < rows_in records → 1 ≤ slice_index (text_at (sizes_in form headers records) t) (column_named (codes "p") headers)
  price_positive there t row =
      let column = column_there headers (codes "p") there in
      let says = ap (role_of form.marks) column.3 ∙ output_price_says form.marks in
      let at_column : column_named (codes "p") headers ≡ column.0 = ap (λ o. unwrap_or o 0) column.2 in
      rw at_column (some_at form headers records fine_fields fine_sizes t column.0 row column.1 (price_units t column.0 row column.1 says))

  pub output_prices_within : has headers (codes "p") ≡ true → All IsPrice (column_numbers (codes "p") headers (sizes_in form headers records))
  output_prices_within there =
      all_listed IsPrice (length (sizes_in form headers records)) _
      (λ t row.
      let inside : t < rows_in records = omega (arith, sizes_are form headers records) in
      (price_positive there t inside, at_most (codes "p") OutputPrice (output_price_says form.marks) there t inside))
