-- Records without a fault make new prices and outputs within the limits.
use Rattle.std.proofs.Common.{◌≡◌, ℕ, ◌*◌, ◌<◌, ◌≤◌, inl, [], List, length, slice_index, None, refl, sym, ap, ◌∙◌, subst}
use Rattle.std.specs.List.{All}
use Rattle.std.specs.Prelude.{codes}
use Rattle.std.proofs.lemmas.List.Elements.{All-nil}
use Rattle.rp_num.specs.declared.decimal.Decimal.{Decimal}
use Rattle.rp_num.proofs.BelowLemmas.{length-listed}
use Rattle.rp_table.specs.Limits.{IsExpenditure, IsPrice, IsQuantity}
use Rattle.rp_table.specs.PriceLists.{PriceList, IsPriceList}
use Rattle.rp_limits.specs.declared.table.TheConstants.{GOODS, LARGEST, NEW_RECORDS}
use Rattle.rp_forms.specs.Columns.{Layout, mark_of_prices}
use Rattle.rp_sheet.specs.Fields.{fields_stage, figures_of, rows_in}
use Rattle.rp_forms.specs.Forms.{asked_form}
use Rattle.rp_sheet.specs.Headers.{goods_stage, has, headers_of}
use Rattle.rp_sheet.specs.SheetFiles.{IsReadFrom}
use Rattle.rp_sheet.specs.Sheets.{column_numbers, column_of, numbers_under}
use Rattle.rp_forms.specs.Texts.{text_at}
use Rattle.rp_sheet.proofs.FileLemmas.{of_read, read_as, scaled_numbers}
use Rattle.rp_num.proofs.RowsBelow.{each_row}
use Rattle.rp_sheet.specs.Sizes.{sizes_stage}
use Rattle.rp_forms.specs.declared.form.Marks.TheVariants.{Inputs}
use Rattle.rp_sheet.proofs.ColumnSizes.{sizes_are, sizes_in}
use Rattle.rp_sheet.proofs.FineHeaders.{FineHeaders, fine_headers, required_there}
use Rattle.rp_sheet.proofs.FixedHeaders.{numbers_of_goods, prices_within, rows_of_goods}
use Rattle.rp_sheet.proofs.StagesPassed.{counted, passed}
use Rattle.rp_cost.specs.AskedOutputs.{AreAskedOutputs}
use Rattle.rp_cost.specs.Denotation.{asked_list, asked_of}
use Rattle.rp_cost.proofs.OutputFacts.{outputs_within}

-- the prices and outputs are within the limits
asked_are : (places : ℕ) (inputs headers : List (List ℕ)) (records : List (List (List ℕ))) → FineHeaders (asked_form places) headers → goods_stage (asked_form places) inputs headers ≡ None
    → fields_stage (asked_form places) headers records ≡ None → sizes_stage (asked_form places) headers (figures_of (asked_form places) headers records) ≡ None
    → 1 ≤ length inputs → length inputs ≤ GOODS → 1 ≤ rows_in records → rows_in records ≤ NEW_RECORDS
    → AreAskedOutputs (asked_list headers inputs (sizes_in (asked_form places) headers records))
asked_are places inputs headers records fine sound fine_fields fine_sizes some few some_rows few_rows =
    let sizes = sizes_in (asked_form places) headers records in
    let rows = rows_of_goods (mark_of_prices Inputs) headers inputs sizes some in
    let counted_rows = rows ∙ sizes_are (asked_form places) headers records in
    record {
      priced = record {
        some_goods = some;
        few_goods = few;
        some_records = rw counted_rows some_rows;
        few_records = rw counted_rows few_rows;
        all_prices = numbers_of_goods (mark_of_prices Inputs) headers inputs sizes ∙ ap (λ (k : ℕ). k * length inputs) (sym rows);
        all_expenditures = inl refl;
        price_limits = prices_within (asked_form places) inputs headers records fine refl sound fine_fields fine_sizes refl;
        expenditure_limits = All-nil IsExpenditure;
      };
      no_expenditure = refl;
      one_each = length-listed _ (length sizes) ∙ sym rows;
      output_limits = outputs_within (asked_form places) headers records fine_fields fine_sizes (required_there (has headers (codes "y")) _ fine.columns).0;
    }

asked_within : {places : ℕ} {inputs : List (List ℕ)} {records : List (List (List ℕ))} {columns : Layout} {figures : List (List Decimal)} {sizes : List (List ℕ)} → IsReadFrom (asked_form places) inputs records columns figures sizes
    → 1 ≤ length inputs → length inputs ≤ GOODS → AreAskedOutputs (asked_list columns.headers inputs sizes)
asked_within {places} {inputs} {records} read some few =
    let stages = passed (asked_form places) inputs records read.faultless in
    let count = counted (asked_form places) records stages.3 in
    let fine = fine_headers (asked_form places) inputs (headers_of records) stages.1 stages.2 in
    of_read (λ h _ s. AreAskedOutputs (asked_list h inputs s)) read (asked_are places inputs (headers_of records) records fine stages.2 stages.4 stages.5 some few count.0 count.1)

module _ {places : ℕ} {inputs given : List (List ℕ)} {records : List (List (List ℕ))} {columns : Layout} {figures : List (List Decimal)} {sizes scaled : List (List ℕ)} (read : IsReadFrom (asked_form places) inputs records columns figures sizes)
    (some : 1 ≤ length inputs) (few : length inputs ≤ GOODS) (named : given ≡ inputs) (same : scaled ≡ sizes) where
  within : AreAskedOutputs (asked_list columns.headers given scaled)
  within = asked_within (read_as named refl same read) (rw named some) (rw named few)

  -- each number of a sheet that no stage refuses is within its limit
  pub asked_price_limits : (t i : ℕ) → t < length scaled → i < length given → slice_index (text_at scaled t) (column_of (mark_of_prices Inputs) columns.headers given i) ≤ LARGEST
  asked_price_limits t i row place =
      (each_row IsPrice (length scaled) (length given) (λ s k. slice_index (text_at scaled s) (column_of (mark_of_prices Inputs) columns.headers given k)) within.priced.price_limits t i row place).1

  pub asked_output_limits : All IsQuantity (column_numbers (codes "y") columns.headers scaled)
  asked_output_limits = within.output_limits

  -- its prices are within the limits
  pub asked_prices : (n : ℕ) (prices m : List ℕ) → n ≡ length inputs → prices ≡ numbers_under (mark_of_prices Inputs) columns.headers given scaled → m ≡ [] → IsPriceList (record { goods = n; prices = prices; m = m })
  asked_prices n prices m count numbered none =
      let count_given = count ∙ sym (ap length named) in
      let list : record { goods = n; prices = prices; m = m } ≡ (asked_list columns.headers given scaled).prices = rw (count_given, numbered, none) refl in
      subst IsPriceList (sym list) within.priced

  -- what it asks is within the limits, and that of its numbers
  pub asked_made : (n : ℕ) (prices m y : List ℕ) (list : PriceList) → n ≡ length inputs → prices ≡ numbers_under (mark_of_prices Inputs) columns.headers given scaled → m ≡ [] → list ≡ record { goods = n; prices = prices; m = m }
      → y ≡ column_numbers (codes "y") columns.headers scaled → AreAskedOutputs (record { prices = list; y = y }) × (record { prices = list; y = y } ≡ asked_of places inputs columns.headers figures)
  unfolding asked_of
  asked_made n prices m y list count numbered none listed outputs =
      let count_given = count ∙ sym (ap length named) in
      let whole : record { prices = list; y = y } ≡ asked_list columns.headers given scaled = rw (listed, count_given, numbered, none, outputs) refl in
      let exact = ap (asked_list columns.headers given) (scaled_numbers (read_as named refl same read)) in
      (subst AreAskedOutputs (sym whole) within, whole ∙ exact ∙ ap (λ names. asked_of places names columns.headers figures) named)
