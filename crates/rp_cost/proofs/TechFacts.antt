-- Records without a fault make a technology within the limits.
use Rattle.std.proofs.Common.{◌≡◌, ℕ, ◌≤◌, Bool, true, false, if◌then◌else◌, ◌⊎◌, inl, inr, List, [], length, None, refl, sym, ap, ◌∙◌, subst}
use Rattle.std.specs.Prelude.{codes}
use Rattle.std.specs.List.{All}
use Rattle.std.proofs.lemmas.List.Elements.{All-nil}
use Rattle.rp_num.specs.declared.decimal.Decimal.{Decimal}
use Rattle.rp_num.proofs.BelowLemmas.{length-listed}
use Rattle.rp_table.specs.Limits.{IsPrice, IsQuantity}
use Rattle.rp_table.specs.Tables.{Observations, IsTable, records_of}
use Rattle.rp_limits.specs.declared.table.TheConstants.{RECORDS}
use Rattle.rp_sheet.specs.Fields.{fields_stage, figures_of, rows_in}
use Rattle.rp_forms.specs.Columns.{Layout}
use Rattle.rp_forms.specs.Forms.{technology_form}
use Rattle.rp_sheet.specs.Headers.{has, headers_of}
use Rattle.rp_sheet.specs.SheetFiles.{IsReadFrom}
use Rattle.rp_sheet.proofs.FileLemmas.{of_read, read_as, scaled_numbers}
use Rattle.rp_sheet.specs.Sheets.{column_numbers}
use Rattle.rp_sheet.specs.Sizes.{sizes_of, sizes_stage}
use Rattle.rp_forms.specs.declared.form.Form.{Form}
use Rattle.rp_sheet.proofs.ColumnSizes.{sizes_are, sizes_in}
use Rattle.rp_sheet.proofs.FineHeaders.{required_there}
use Rattle.rp_sheet.proofs.GoodHeaders.{GoodHeaders, good_headers}
use Rattle.rp_sheet.proofs.StagesPassed.{counted, passed}
use Rattle.rp_text.specs.Denotation.{priced_table}
use Rattle.rp_text.proofs.PricedTables.{IsPriced, priced_is, priced_records}
use Rattle.rp_cost.specs.Denotation.{inputs_of, output_prices, tech_of}
use Rattle.rp_cost.specs.Technology.{IsTechnology}
use Rattle.rp_cost.proofs.OutputFacts.{output_prices_within, outputs_within}

technology_priced : IsPriced technology_form
technology_priced = record { priced = refl; own_scale = refl; no_expenditure = refl; no_income = refl }

module _ (headers : List (List ℕ)) (records : List (List (List ℕ))) (good : GoodHeaders technology_form headers) (fine_fields : fields_stage technology_form headers records ≡ None) (fine_sizes : sizes_stage technology_form headers (figures_of technology_form headers records) ≡ None) where
  rows_count : length (sizes_in technology_form headers records) ≡ rows_in records
  rows_count = sizes_are technology_form headers records

  records_are : records_of (inputs_of headers (figures_of technology_form headers records)) ≡ rows_in records
  unfolding inputs_of
  records_are = priced_records technology_form headers records technology_priced good fine_fields fine_sizes []

  -- input prices and inputs are within the limits
  inputs_are : 1 ≤ rows_in records → rows_in records ≤ RECORDS → IsTable (inputs_of headers (figures_of technology_form headers records))
  unfolding inputs_of
  inputs_are = priced_is technology_form headers records technology_priced good fine_fields fine_sizes [] (inl refl)

  -- the output has a price at each record or at none
  count_output_prices : (b : Bool) (n : ℕ) → rows_in records ≡ n
      → (length (if b then column_numbers (codes "p") headers (sizes_in technology_form headers records) else []) ≡ 0) ⊎ (length (if b then column_numbers (codes "p") headers (sizes_in technology_form headers records) else []) ≡ n)
  count_output_prices true n is = inr (length-listed _ (length (sizes_in technology_form headers records)) ∙ rows_count ∙ is)
  count_output_prices false n is = inl refl

  all_output_prices : (b : Bool) → has headers (codes "p") ≡ b → All IsPrice (if b then column_numbers (codes "p") headers (sizes_in technology_form headers records) else [])
  all_output_prices true there = output_prices_within technology_form headers records fine_fields fine_sizes there
  all_output_prices false there = All-nil IsPrice

  -- the technology is within the limits
  technology_is : 1 ≤ rows_in records → rows_in records ≤ RECORDS → IsTechnology (tech_of headers (figures_of technology_form headers records))
  unfolding tech_of
  technology_is some few = record {
    inputs = inputs_are some few;
    all_outputs = length-listed _ (length (sizes_in technology_form headers records)) ∙ rows_count ∙ sym records_are;
    output_limits = outputs_within technology_form headers records fine_fields fine_sizes (required_there (has headers (codes "y")) _ good.fine.columns).0;
    all_output_prices = count_output_prices (has headers (codes "p")) _ (sym records_are);
    output_price_limits = all_output_prices (has headers (codes "p")) refl;
  }

technology_within : {records : List (List (List ℕ))} {columns : Layout} {figures : List (List Decimal)} {sizes : List (List ℕ)} → IsReadFrom technology_form [] records columns figures sizes → IsTechnology (tech_of columns.headers figures)
technology_within {records} read =
    let stages = passed technology_form [] records read.faultless in
    let count = counted technology_form records stages.3 in
    let good = good_headers technology_form (headers_of records) refl refl refl stages.1 stages.2 in
    of_read (λ h f _. IsTechnology (tech_of h f)) read (technology_is (headers_of records) records good stages.4 stages.5 count.0 count.1)

-- the table of inputs from its form
inputs_made : (form : Form) (headers : List (List ℕ)) (figures : List (List Decimal)) → form ≡ technology_form → priced_table form headers figures [] ≡ inputs_of headers figures
unfolding inputs_of
inputs_made form headers figures is = ap (λ (kind : Form). priced_table kind headers figures []) is

-- the technology from its parts
tech_made : (headers : List (List ℕ)) (figures : List (List Decimal)) (sizes : List (List ℕ)) (table : Observations) (y p : List ℕ) → sizes ≡ sizes_of technology_form headers figures → table ≡ inputs_of headers figures
    → y ≡ column_numbers (codes "y") headers sizes → p ≡ output_prices headers sizes → record { table = table; y = y; p = p } ≡ tech_of headers figures
unfolding tech_of
tech_made headers figures sizes table y p sized is_table is_y is_p =
    let at_y = is_y ∙ ap (λ rows. column_numbers (codes "y") headers rows) sized in
    let at_p = is_p ∙ ap (λ rows. output_prices headers rows) sized in
    rw (is_table, at_y, at_p) refl

-- its parts are within the limits
parts_within : (headers : List (List ℕ)) (figures : List (List Decimal)) (sizes : List (List ℕ)) → sizes ≡ sizes_of technology_form headers figures → IsTechnology (tech_of headers figures)
    → IsTable (inputs_of headers figures) × All IsQuantity (column_numbers (codes "y") headers sizes) × All IsPrice (output_prices headers sizes)
unfolding tech_of
parts_within headers figures sizes sized within = rw sized (within.inputs, within.output_limits, within.output_price_limits)

module _ {records : List (List (List ℕ))} {columns : Layout} {figures numbers : List (List Decimal)} {sizes scaled : List (List ℕ)} (read : IsReadFrom technology_form [] records columns figures sizes) (same_numbers : numbers ≡ figures) (same : scaled ≡ sizes) where
  -- the parts of a sheet that no stage refuses are within the limits
  pub technology_limits : IsTable (priced_table columns.form columns.headers numbers []) × All IsQuantity (column_numbers (codes "y") columns.headers scaled) × All IsPrice (output_prices columns.headers scaled)
  technology_limits =
      let given = read_as refl same_numbers same read in
      let parts = parts_within columns.headers numbers scaled (scaled_numbers given) (technology_within given) in
      (subst IsTable (sym (inputs_made columns.form columns.headers numbers read.kind)) parts.0, parts.1, parts.2)

  -- its technology is within the limits, and that of its numbers
  pub technology_made : (table : Observations) (y p : List ℕ) → table ≡ priced_table columns.form columns.headers numbers [] → y ≡ column_numbers (codes "y") columns.headers scaled → p ≡ output_prices columns.headers scaled
      → IsTechnology (record { table = table; y = y; p = p }) × (record { table = table; y = y; p = p } ≡ tech_of columns.headers figures)
  technology_made table y p is_table is_y is_p =
      let given = read_as refl same_numbers same read in
      let made = tech_made columns.headers numbers scaled table y p (scaled_numbers given) (is_table ∙ inputs_made columns.form columns.headers numbers read.kind) is_y is_p in
      (subst IsTechnology (sym made) (technology_within given), made ∙ ap (tech_of columns.headers) same_numbers)
