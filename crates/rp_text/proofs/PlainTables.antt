-- Records of the plain form denote the table that they list.
use Rattle.std.proofs.Common.{◌≡◌, ℕ, ◌+◌, ◌*◌, ◌/◌, ◌<◌, ◌≤◌, inl, inr, [], List, length, slice_index, get_or, None, Ok, refl, sym, ap, ◌∙◌, subst, arith}
use Rattle.std.specs.Prelude.{◌%◌, unwrap_or}
use Rattle.std.proofs.lemmas.Grind.{same_number_lists}
use Rattle.std.proofs.lemmas.Nat.{mul-add-lt}
use Rattle.std.proofs.Math.Nat.{mul_comm, div-lt_iff_lt-mul}
use Rattle.rp_num.specs.declared.decimal.Decimal.{Decimal}
use Rattle.rp_table.specs.Tables.{Observations, IsTable, goods_of, records_of, price_of, quantity_of}
use Rattle.rp_num.specs.Below.{rows_below}
use Rattle.rp_forms.specs.Texts.{text_at}
use Rattle.rp_forms.specs.Columns.{is_price, names_with, price_mark, quantity_mark}
use Rattle.rp_forms.specs.Forms.{table_form}
use Rattle.rp_sheet.specs.Records.{record_at}
use Rattle.rp_sheet.specs.Headers.{headers_in}
use Rattle.rp_sheet.specs.Fields.{figures_of, rows_in, row_at}
use Rattle.rp_sheet.specs.Sizes.{places_of, sizes_of}
use Rattle.rp_sheet.specs.ChoiceCounts.{choices_stage}
use Rattle.rp_text.specs.Denotation.{own_levels, table_of, denoted_table}
use Rattle.rp_sheet.specs.Sheets.{fault_under, first_fault, numbers_under, column_of}
use Rattle.rp_text.specs.Plain.{IsPlainHeader, IsPlainRecord}
use Rattle.rp_forms.specs.declared.form.Marks.TheVariants.{Goods}
use Rattle.rp_forms.specs.declared.form.Role.TheVariants.{Price, Quantity}
use Rattle.rp_num.proofs.RowsBelow.{length-rows, row_number}
use Rattle.rp_sheet.proofs.StageLemmas.{under_headers, fine_records, in_none}
use Rattle.rp_sheet.proofs.ColumnSizes.{sizes_are}
use Rattle.rp_text.proofs.TableMade.{table_there}
use Rattle.rp_text.proofs.PlainHeaders.{headers_are, names_are, no_headers_fault, no_goods_stage_fault, no_levels, price_place, quantity_place}
use Rattle.rp_text.proofs.PlainRecords.{no_fields_fault, no_sizes_fault, no_places, price_listed, quantity_listed}

-- numbers are rows where they are so at each row and place
rows_listed : (n width : ℕ) (f : ℕ → ℕ → ℕ) (numbers : List ℕ) → 1 ≤ width → length numbers ≡ n * width → ((t g : ℕ) → t < n → g < width → f t g ≡ get_or numbers (t * width + g) 0) → numbers ≡ rows_below n width f
rows_listed n width f numbers some long each =
    same_number_lists numbers (rows_below n width f) (long ∙ sym (length-rows n width f)) (λ k below.
    let row : k / width < n = (div-lt_iff_lt-mul {k = width} {x = k} {y = n} some).1 (omega (arith, long)) in
    let place : k % width < width = omega arith in
    let at_place : k / width * width + k % width ≡ k = omega (arith, mul_comm width (k / width)) in
    subst (λ (i : ℕ). get_or numbers i 0 ≡ get_or (rows_below n width f) i 0) at_place
    (sym (each (k / width) (k % width) row place) ∙ sym (row_number n width f (k / width) (k % width) row place)))

no_choices : (headers : List (List ℕ)) (figures : List (List Decimal)) → choices_stage table_form headers figures ≡ None
unfolding choices_stage
no_choices headers figures = refl

-- the limits of a table, at a record and a good
price_within : (table : Observations) → IsTable table → (t g : ℕ) → t < records_of table → g < goods_of table → price_of table t g ≤ 9999999
price_within table within t g row good =
    let below = mul-add-lt t (goods_of table) g (records_of table) row good in
    let long = within.all_prices in
    let inside : t * goods_of table + g < length table.prices = omega (arith, below, long, mul_comm (goods_of table) (records_of table)) in
    (within.price_limits (t * goods_of table + g) 0 inside).1

quantity_within : (table : Observations) → IsTable table → (t g : ℕ) → t < records_of table → g < goods_of table → quantity_of table t g ≤ 9999999
quantity_within table within t g row good =
    let below = mul-add-lt t (goods_of table) g (records_of table) row good in
    let long = within.all_quantities in
    let inside : t * goods_of table + g < length table.quantities = omega (arith, below, long, mul_comm (goods_of table) (records_of table)) in
    within.quantity_limits (t * goods_of table + g) 0 inside

-- a table from its parts
table_parts : (headers : List (List ℕ)) (figures : List (List Decimal)) (names : List (List ℕ)) (prices quantities : List ℕ) (a b : ℕ) (levels : List ℕ) → names ≡ names_with Goods is_price headers
    → prices ≡ numbers_under price_mark headers names (sizes_of table_form headers figures) → quantities ≡ numbers_under quantity_mark headers names (sizes_of table_form headers figures)
    → a ≡ places_of table_form headers figures Price → b ≡ places_of table_form headers figures Quantity → levels ≡ own_levels headers (sizes_of table_form headers figures)
    → record { names = names; prices = prices; quantities = quantities; price_places = a; quantity_places = b; levels = levels } ≡ table_of headers figures
unfolding table_of
table_parts headers figures names prices quantities a b levels named priced counted at_a at_b levelled =
    let p = priced ∙ ap (λ goods. numbers_under price_mark headers goods (sizes_of table_form headers figures)) named in
    let q = counted ∙ ap (λ goods. numbers_under quantity_mark headers goods (sizes_of table_form headers figures)) named in
    rw (p, q, named, at_a, at_b, levelled) refl

module _ (headers : List (List ℕ)) (records : List (List (List ℕ))) (table : Observations) (plain : IsPlainHeader headers table.names) (all : rows_in records ≡ records_of table)
    (each : (t : ℕ) → t < records_of table → IsPlainRecord (row_at records t) (goods_of table) (price_of table t) (quantity_of table t)) (within : IsTable table) where
  rows_count : length (sizes_of table_form headers (figures_of table_form headers records)) ≡ records_of table
  rows_count = sizes_are table_form headers records ∙ all

  prices_are : table.prices ≡ numbers_under price_mark headers table.names (sizes_of table_form headers (figures_of table_form headers records))
  prices_are =
      let sizes = sizes_of table_form headers (figures_of table_form headers records) in
      let numbers = λ (t g : ℕ). slice_index (text_at sizes t) (column_of price_mark headers table.names g) in
      rows_listed (length sizes) (goods_of table) numbers table.prices within.some_goods (within.all_prices ∙ ap (λ n. n * goods_of table) (sym rows_count)) (λ t g row good.
      let inside : t < records_of table = omega (arith, rows_count) in
      let column : column_of price_mark headers table.names g ≡ 2 * g = ap (λ o. unwrap_or o 0) (price_place headers table.names plain g good) in
      ap (slice_index (text_at sizes t)) column
      ∙ price_listed headers table.names plain records (records_of table) (price_of table) (quantity_of table) all each (price_within table within) (quantity_within table within) t g inside good)

  quantities_are : table.quantities ≡ numbers_under quantity_mark headers table.names (sizes_of table_form headers (figures_of table_form headers records))
  quantities_are =
      let sizes = sizes_of table_form headers (figures_of table_form headers records) in
      let numbers = λ (t g : ℕ). slice_index (text_at sizes t) (column_of quantity_mark headers table.names g) in
      rows_listed (length sizes) (goods_of table) numbers table.quantities within.some_goods (within.all_quantities ∙ ap (λ n. n * goods_of table) (sym rows_count)) (λ t g row good.
      let inside : t < records_of table = omega (arith, rows_count) in
      let column : column_of quantity_mark headers table.names g ≡ 2 * g + 1 = ap (λ o. unwrap_or o 0) (quantity_place headers table.names plain g good) in
      ap (slice_index (text_at sizes t)) column
      ∙ quantity_listed headers table.names plain records (records_of table) (price_of table) (quantity_of table) all each (price_within table within) (quantity_within table within) t g inside good)

  table_is : table.price_places ≡ 0 → table.quantity_places ≡ 0 → table.levels ≡ [] → table ≡ table_of headers (figures_of table_form headers records)
  table_is price_scale quantity_scale levels =
      let named = sym (names_are headers table.names plain) in
      let scale = no_places headers table.names plain records (records_of table) (price_of table) (quantity_of table) all each (price_within table within) (quantity_within table within) in
      table_parts headers (figures_of table_form headers records) table.names table.prices table.quantities table.price_places table.quantity_places table.levels
      named prices_are quantities_are (price_scale ∙ sym (scale Price (inl refl))) (quantity_scale ∙ sym (scale Quantity (inr refl))) (rw (levels, no_levels headers table.names plain) refl)

  no_fault : fault_under table_form [] headers records ≡ None
  no_fault =
      let some = within.some_records in
      let few = within.few_records in
      in_none table_form [] headers records
      (no_headers_fault headers table.names plain)
      (no_goods_stage_fault headers table.names plain)
      (fine_records table_form records (omega (arith, all)) (λ one. omega (arith, all, one)) (omega (arith, all)))
      (no_fields_fault headers table.names plain records (records_of table) (price_of table) (quantity_of table) all each (price_within table within) (quantity_within table within))
      (no_sizes_fault headers table.names plain records (records_of table) (price_of table) (quantity_of table) all each (price_within table within) (quantity_within table within))
      (no_choices headers (figures_of table_form headers records))

-- records of the plain form denote the table that they list
pub plain_denotes : (records : List (List (List ℕ))) (table : Observations) → length records ≡ records_of table + 1 → IsPlainHeader (record_at records 0) table.names
    → ((t : ℕ) → t < records_of table → IsPlainRecord (row_at records t) (goods_of table) (price_of table t) (quantity_of table t))
    → IsTable table → table.price_places ≡ 0 → table.quantity_places ≡ 0 → table.levels ≡ [] → denoted_table records ≡ Ok table
plain_denotes records table long plain each within price_scale quantity_scale levels =
    let header = record_at records 0 in
    let all : rows_in records ≡ records_of table = omega (arith, long) in
    let same : headers_in header ≡ header = headers_are header table.names plain in
    let none : first_fault table_form [] records ≡ None =
    under_headers table_form [] records (omega (arith, long)) ∙ ap (λ headers. fault_under table_form [] headers records) same ∙ no_fault header records table plain all each within in
    table_there records none
    ∙ ap (λ headers. Ok (table_of headers (figures_of table_form headers records))) same
    ∙ ap Ok (sym (table_is header records table plain all each within price_scale quantity_scale levels))
