-- Records without a fault make new prices within the limits.
use Rattle.std.proofs.Common.{◌≡◌, ℕ, ◌*◌, ◌<◌, ◌≤◌, Bool, true, false, if◌then◌else◌, ◌⊎◌, inl, inr, [], List, length, slice_index, Option, Some, None, refl, sym, ap, ◌∙◌, subst, arith}
use Rattle.std.specs.Prelude.{codes, unwrap_or}
use Rattle.std.specs.List.{All}
use Rattle.std.specs.Option.{option_map_or}
use Rattle.std.proofs.lemmas.List.Elements.{All-nil}
use Rattle.rp_limits.specs.declared.table.TheConstants.{GOODS, LARGEST, LARGEST_EXPENDITURE}
use Rattle.rp_table.specs.Limits.{IsPrice}
use Rattle.rp_table.specs.Rows.{rows_count}
use Rattle.rp_table.specs.PriceLists.{PriceList, IsPriceList}
use Rattle.rp_forms.specs.Texts.{text_at}
use Rattle.rp_num.specs.declared.decimal.Decimal.{Decimal}
use Rattle.rp_forms.specs.Columns.{Layout, role_of, takes, measures, price_mark}
use Rattle.rp_forms.specs.Forms.{prices_form}
use Rattle.rp_sheet.specs.Headers.{headers_of, has, goods_stage}
use Rattle.rp_sheet.specs.Fields.{figures_of, rows_in, fields_stage}
use Rattle.rp_sheet.specs.Sizes.{sizes_stage}
use Rattle.rp_sheet.specs.ChoiceCounts.{column_named}
use Rattle.rp_sheet.specs.SheetFiles.{IsReadFrom}
use Rattle.rp_sheet.proofs.FileLemmas.{of_read, read_as, scaled_numbers}
use Rattle.rp_text.specs.Denotation.{price_list, prices_of}
use Rattle.rp_sheet.specs.Sheets.{column_of, column_numbers, numbers_under}
use Rattle.rp_forms.specs.declared.form.Marks.TheVariants.{Goods}
use Rattle.rp_forms.specs.declared.form.Role.{Role}
use Rattle.rp_forms.specs.declared.form.Role.TheVariants.{Observation, Expenditure}
use Rattle.rp_num.proofs.BelowLemmas.{length-listed}
use Rattle.rp_num.proofs.RowsBelow.{all_listed, each_row}
use Rattle.rp_sheet.proofs.MeasuredRoles.{measured_role}
use Rattle.rp_sheet.proofs.FineHeaders.{FineHeaders, fine_headers, required_there}
use Rattle.rp_sheet.proofs.ColumnSizes.{sizes_in, sizes_are}
use Rattle.rp_sheet.proofs.AmountColumns.{expenditure_header, expenditure_says, amount_within}
use Rattle.rp_sheet.proofs.FixedHeaders.{prices_within, rows_of_goods, numbers_of_goods}
use Rattle.rp_sheet.proofs.StagesPassed.{counted, passed}

-- only an expenditure says how much is bought
measured_expenditure : (places : ℕ) → (o : Option Role) → option_map_or (takes (prices_form true places)) o false ≡ true → measures (unwrap_or o Observation) ≡ true → o ≡ Some Expenditure
measured_expenditure places = measured_role (takes (prices_form true places)) Expenditure (λ e. cc e) (λ e. refl) (λ e. cc e)

module _ (places : ℕ) (headers : List (List ℕ)) (records : List (List (List ℕ))) (fine : FineHeaders (prices_form true places) headers)
    (fine_fields : fields_stage (prices_form true places) headers records ≡ None) (fine_sizes : sizes_stage (prices_form true places) headers (figures_of (prices_form true places) headers records) ≡ None) where
  expenditure_within : (t : ℕ) → t < rows_in records
      → (1 ≤ slice_index (text_at (sizes_in (prices_form true places) headers records) t) (column_named (codes "m") headers))
      × (slice_index (text_at (sizes_in (prices_form true places) headers records) t) (column_named (codes "m") headers) ≤ LARGEST_EXPENDITURE)
  expenditure_within =
      amount_within (prices_form true places) headers records fine fine_fields fine_sizes (codes "m") Expenditure
      (required_there (has headers (codes "m")) _ fine.columns).0
      (expenditure_says Goods) refl
      (λ c column measured. expenditure_header _ (text_at headers c) (measured_expenditure places (role_of Goods (text_at headers c)) (fine.taken c column) measured))

  expenditures_within : All (λ m. (1 ≤ m) × (m ≤ LARGEST_EXPENDITURE)) (column_numbers (codes "m") headers (sizes_in (prices_form true places) headers records))
  expenditures_within =
      all_listed (λ m. (1 ≤ m) × (m ≤ LARGEST_EXPENDITURE)) (length (sizes_in (prices_form true places) headers records)) _
      (λ t row. expenditure_within t (omega (arith, sizes_are (prices_form true places) headers records)))

module _ (places : ℕ) (headers : List (List ℕ)) (records : List (List (List ℕ))) where
  -- expenditures that are asked for are within the limits
  all_expenditures : (with_m : Bool) → FineHeaders (prices_form with_m places) headers → fields_stage (prices_form with_m places) headers records ≡ None
      → sizes_stage (prices_form with_m places) headers (figures_of (prices_form with_m places) headers records) ≡ None
      → All (λ m. (1 ≤ m) × (m ≤ LARGEST_EXPENDITURE)) (if with_m then column_numbers (codes "m") headers (sizes_in (prices_form with_m places) headers records) else [])
  all_expenditures true fine fine_fields fine_sizes = expenditures_within places headers records fine fine_fields fine_sizes
  all_expenditures false fine fine_fields fine_sizes = All-nil (λ m. (1 ≤ m) × (m ≤ LARGEST_EXPENDITURE))

  -- there are as many as records, or none
  count_expenditures : (with_m : Bool) (sizes : List (List ℕ)) (n : ℕ) → n ≡ length sizes
      → (length (if with_m then column_numbers (codes "m") headers sizes else []) ≡ 0) ⊎ (length (if with_m then column_numbers (codes "m") headers sizes else []) ≡ n)
  count_expenditures true sizes n is = inr (length-listed _ (length sizes) ∙ sym is)
  count_expenditures false sizes n is = inl refl

-- an expenditure for each record, where they are asked for
spent_each : (with_m : Bool) (headers goods sizes : List (List ℕ)) → 1 ≤ length goods → with_m ≡ true
    → length (price_list with_m headers goods sizes).m ≡ rows_count (price_list with_m headers goods sizes).prices (price_list with_m headers goods sizes).goods
spent_each true headers goods sizes some is = length-listed _ (length sizes) ∙ sym (rows_of_goods price_mark headers goods sizes some)
spent_each false headers goods sizes some is = cc is

-- the prices are within the limits
prices_are : (with_m : Bool) (places : ℕ) (goods headers : List (List ℕ)) (records : List (List (List ℕ))) → FineHeaders (prices_form with_m places) headers → goods_stage (prices_form with_m places) goods headers ≡ None
    → fields_stage (prices_form with_m places) headers records ≡ None → sizes_stage (prices_form with_m places) headers (figures_of (prices_form with_m places) headers records) ≡ None
    → 1 ≤ length goods → length goods ≤ 16 → 1 ≤ rows_in records → rows_in records ≤ 16
    → IsPriceList (price_list with_m headers goods (sizes_in (prices_form with_m places) headers records))
prices_are with_m places goods headers records fine sound fine_fields fine_sizes some few some_rows few_rows =
    let sizes = sizes_in (prices_form with_m places) headers records in
    let rows = rows_of_goods price_mark headers goods sizes some in
    let counted_rows = rows ∙ sizes_are (prices_form with_m places) headers records in
    record {
      some_goods = some;
      few_goods = few;
      some_records = rw counted_rows some_rows;
      few_records = rw counted_rows few_rows;
      all_prices = numbers_of_goods price_mark headers goods sizes ∙ ap (λ (k : ℕ). k * length goods) (sym rows);
      all_expenditures = count_expenditures places headers records with_m sizes (rows_count (numbers_under price_mark headers goods sizes) (length goods)) rows;
      price_limits = prices_within (prices_form with_m places) goods headers records fine refl sound fine_fields fine_sizes refl;
      expenditure_limits = all_expenditures places headers records with_m fine fine_fields fine_sizes;
    }

prices_read : (with_m : Bool) {places : ℕ} {goods : List (List ℕ)} {records : List (List (List ℕ))} {columns : Layout} {figures : List (List Decimal)} {sizes : List (List ℕ)} → IsReadFrom (prices_form with_m places) goods records columns figures sizes
    → 1 ≤ length goods → length goods ≤ GOODS → IsPriceList (price_list with_m columns.headers goods sizes)
prices_read with_m {places} {goods} {records} read some few =
    let stages = passed (prices_form with_m places) goods records read.faultless in
    let count = counted (prices_form with_m places) records stages.3 in
    let fine = fine_headers (prices_form with_m places) goods (headers_of records) stages.1 stages.2 in
    of_read (λ h _ s. IsPriceList (price_list with_m h goods s)) read (prices_are with_m places goods (headers_of records) records fine stages.2 stages.4 stages.5 some few count.0 count.1)

module _ (with_m : Bool) {places : ℕ} {goods given : List (List ℕ)} {records : List (List (List ℕ))} {columns : Layout} {figures : List (List Decimal)} {sizes scaled : List (List ℕ)} (read : IsReadFrom (prices_form with_m places) goods records columns figures sizes)
    (some : 1 ≤ length goods) (few : length goods ≤ GOODS) (named : given ≡ goods) (same : scaled ≡ sizes) where
  within : IsPriceList (price_list with_m columns.headers given scaled)
  within = prices_read with_m (read_as named refl same read) (rw named some) (rw named few)

  -- each price of a sheet that no stage refuses is within the limit
  pub price_limits : (t g : ℕ) → t < length scaled → g < length given → slice_index (text_at scaled t) (column_of price_mark columns.headers given g) ≤ LARGEST
  price_limits t g row place =
      (each_row IsPrice (length scaled) (length given) (λ s k. slice_index (text_at scaled s) (column_of price_mark columns.headers given k)) within.price_limits t g row place).1

  -- its prices are within the limits, and those of its numbers
  pub prices_made : (n : ℕ) (prices m : List ℕ) → n ≡ length goods → prices ≡ numbers_under price_mark columns.headers given scaled → m ≡ (if with_m then column_numbers (codes "m") columns.headers scaled else [])
      → IsPriceList (record { goods = n; prices = prices; m = m }) × (record { goods = n; prices = prices; m = m } ≡ prices_of with_m places goods columns.headers figures)
  unfolding prices_of
  prices_made n prices m count numbered spent =
      let count_given = count ∙ sym (ap length named) in
      let list : record { goods = n; prices = prices; m = m } ≡ price_list with_m columns.headers given scaled = rw (count_given, numbered, spent) refl in
      let exact = ap (price_list with_m columns.headers given) (scaled_numbers (read_as named refl same read)) in
      (subst IsPriceList (sym list) within, list ∙ exact ∙ ap (λ names. prices_of with_m places names columns.headers figures) named)

  -- what holds of every list of prices that is read
  pub prices_fit : (list : PriceList) → list ≡ prices_of with_m places goods columns.headers figures → (list.goods ≡ length goods) × (1 ≤ rows_count list.prices list.goods) × (with_m ≡ true → length list.m ≡ rows_count list.prices list.goods)
  unfolding prices_of
  prices_fit list is =
      let sheet = prices_read with_m read some few in
      let exact = is ∙ sym (ap (price_list with_m columns.headers goods) (scaled_numbers read)) in
      subst (λ (l : PriceList). (l.goods ≡ length goods) × (1 ≤ rows_count l.prices l.goods) × (with_m ≡ true → length l.m ≡ rows_count l.prices l.goods)) (sym exact)
      (refl, sheet.some_records, spent_each with_m columns.headers goods sizes some)
