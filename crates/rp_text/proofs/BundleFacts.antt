-- Records without a fault make bundles within the limits.
use Rattle.std.proofs.Common.{◌≡◌, ℕ, ◌*◌, ◌<◌, ◌≤◌, List, length, slice_index, None, refl, sym, ap, ◌∙◌, subst}
use Rattle.rp_table.specs.BundleLists.{IsBundleList}
use Rattle.rp_limits.specs.declared.table.TheConstants.{GOODS, LARGEST}
use Rattle.rp_forms.specs.Texts.{text_at}
use Rattle.rp_num.specs.declared.decimal.Decimal.{Decimal}
use Rattle.rp_forms.specs.Columns.{Layout, quantity_mark}
use Rattle.rp_forms.specs.Forms.{bundles_form}
use Rattle.rp_sheet.specs.Headers.{headers_of, goods_stage}
use Rattle.rp_sheet.specs.Fields.{figures_of, rows_in, fields_stage}
use Rattle.rp_sheet.specs.Sizes.{sizes_stage}
use Rattle.rp_sheet.specs.SheetFiles.{IsReadFrom}
use Rattle.rp_sheet.specs.Sheets.{column_of, numbers_under}
use Rattle.rp_sheet.proofs.FileLemmas.{of_read, read_as, scaled_numbers}
use Rattle.rp_num.proofs.RowsBelow.{each_row}
use Rattle.rp_text.specs.Denotation.{bundle_list, bundles_of}
use Rattle.rp_sheet.proofs.FineHeaders.{FineHeaders, fine_headers}
use Rattle.rp_sheet.proofs.ColumnSizes.{sizes_in, sizes_are}
use Rattle.rp_sheet.proofs.FixedHeaders.{numbers_within, rows_of_goods, numbers_of_goods}
use Rattle.rp_sheet.proofs.StagesPassed.{counted, passed}

-- the bundles are within the limits
bundles_are : (places : ℕ) (goods headers : List (List ℕ)) (records : List (List (List ℕ))) → FineHeaders (bundles_form places) headers → goods_stage (bundles_form places) goods headers ≡ None
    → fields_stage (bundles_form places) headers records ≡ None → sizes_stage (bundles_form places) headers (figures_of (bundles_form places) headers records) ≡ None
    → 1 ≤ length goods → length goods ≤ 16 → 1 ≤ rows_in records → rows_in records ≤ 16
    → IsBundleList (bundle_list headers goods (sizes_in (bundles_form places) headers records))
bundles_are places goods headers records fine sound fine_fields fine_sizes some few some_rows few_rows =
    let sizes = sizes_in (bundles_form places) headers records in
    let rows = rows_of_goods quantity_mark headers goods sizes some in
    let counted_rows = rows ∙ sizes_are (bundles_form places) headers records in
    record {
      some_goods = some;
      few_goods = few;
      some_records = rw counted_rows some_rows;
      few_records = rw counted_rows few_rows;
      all_quantities = numbers_of_goods quantity_mark headers goods sizes ∙ ap (λ (k : ℕ). k * length goods) (sym rows);
      quantity_limits = numbers_within (bundles_form places) goods headers records fine refl sound fine_fields fine_sizes;
    }

bundles_within : {places : ℕ} {goods : List (List ℕ)} {records : List (List (List ℕ))} {columns : Layout} {figures : List (List Decimal)} {sizes : List (List ℕ)} → IsReadFrom (bundles_form places) goods records columns figures sizes
    → 1 ≤ length goods → length goods ≤ GOODS → IsBundleList (bundle_list columns.headers goods sizes)
bundles_within {places} {goods} {records} read some few =
    let stages = passed (bundles_form places) goods records read.faultless in
    let count = counted (bundles_form places) records stages.3 in
    let fine = fine_headers (bundles_form places) goods (headers_of records) stages.1 stages.2 in
    of_read (λ h _ s. IsBundleList (bundle_list h goods s)) read (bundles_are places goods (headers_of records) records fine stages.2 stages.4 stages.5 some few count.0 count.1)

module _ {places : ℕ} {goods given : List (List ℕ)} {records : List (List (List ℕ))} {columns : Layout} {figures : List (List Decimal)} {sizes scaled : List (List ℕ)} (read : IsReadFrom (bundles_form places) goods records columns figures sizes)
    (some : 1 ≤ length goods) (few : length goods ≤ GOODS) (named : given ≡ goods) (same : scaled ≡ sizes) where
  within : IsBundleList (bundle_list columns.headers given scaled)
  within = bundles_within (read_as named refl same read) (rw named some) (rw named few)

  -- each quantity of a sheet that no stage refuses is within the limit
  pub bundle_limits : (t g : ℕ) → t < length scaled → g < length given → slice_index (text_at scaled t) (column_of quantity_mark columns.headers given g) ≤ LARGEST
  bundle_limits = each_row (λ q. q ≤ LARGEST) (length scaled) (length given) (λ t g. slice_index (text_at scaled t) (column_of quantity_mark columns.headers given g)) within.quantity_limits

  -- its bundles are within the limits, and those of its numbers
  pub bundles_made : (n : ℕ) (quantities : List ℕ) → n ≡ length goods → quantities ≡ numbers_under quantity_mark columns.headers given scaled
      → IsBundleList (record { goods = n; quantities = quantities }) × (record { goods = n; quantities = quantities } ≡ bundles_of places goods columns.headers figures)
  unfolding bundles_of
  bundles_made n quantities count numbered =
      let count_given = count ∙ sym (ap length named) in
      let list : record { goods = n; quantities = quantities } ≡ bundle_list columns.headers given scaled = rw (count_given, numbered) refl in
      let exact = ap (bundle_list columns.headers given) (scaled_numbers (read_as named refl same read)) in
      (subst IsBundleList (sym list) within, list ∙ exact ∙ ap (λ names. bundles_of places names columns.headers figures) named)
