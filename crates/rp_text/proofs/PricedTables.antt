-- The prices and quantities in records without a fault make a table within the limits, whatever the marks.
use Rattle.std.proofs.Common.{◌≡◌, ℕ, ◌*◌, ◌/◌, ◌<◌, ◌≤◌, Bool, true, false, if◌then◌else◌, ◌⊎◌, inl, inr, List, ◌++◌, length, slice_index, Option, Some, None, refl, sym, ap, ◌∙◌, arith}
use Rattle.std.specs.Prelude.{unwrap_or}
use Rattle.std.specs.Option.{option_map_or}
use Rattle.std.proofs.Math.Nat.{mul-div_cancel}
use Rattle.rp_table.specs.Limits.{IsPrice}
use Rattle.rp_num.specs.declared.decimal.Decimal.{Decimal}
use Rattle.rp_table.specs.OwnLevels.{AreOwnLevels}
use Rattle.rp_table.specs.Tables.{IsTable, records_of, quantity_of}
use Rattle.rp_limits.specs.declared.table.TheConstants.{RECORDS}
use Rattle.rp_forms.specs.Columns.{is_price, mark_of_prices, mark_of_quantities, measures, names_with, role_of, takes}
use Rattle.rp_sheet.specs.Fields.{fields_stage, figures_of, rows_in}
use Rattle.rp_sheet.specs.Sheets.{column_of}
use Rattle.rp_sheet.specs.Sizes.{places_of, sizes_of, sizes_stage}
use Rattle.rp_forms.specs.Columns.{limit_of}
use Rattle.rp_forms.specs.Texts.{place_of, text_at}
use Rattle.rp_forms.specs.declared.form.Form.{Form}
use Rattle.rp_forms.specs.declared.form.Role.{Role}
use Rattle.rp_forms.specs.declared.form.Role.TheVariants.{Observation, Price, Quantity, Expenditure, Income, Budget, Times, Output, OutputPrice, Menu, Choice, OwnLevel}
use Rattle.rp_sheet.proofs.ColumnSizes.{bought_at, price_at, sizes_are, sizes_in, within_limit}
use Rattle.rp_sheet.proofs.FigureLemmas.{few_places}
use Rattle.rp_sheet.proofs.GoodHeaders.{GoodHeaders, distinct_names, price_column, quantity_good_of, some_quantity}
use Rattle.rp_sheet.proofs.MeasuredRoles.{measured_role}
use Rattle.rp_sheet.proofs.PlaceLemmas.{found_at}
use Rattle.rp_num.proofs.RowsBelow.{all_rows, each_row, length-rows, row_number}
use Rattle.rp_table.proofs.SumsBelow.{sum_at_least}
use Rattle.rp_text.specs.Denotation.{priced_table}

-- files with prices, whose quantities have a scale of their own and are all that is measured
pub record IsPriced (form : Form) : Type 0 where
  pub priced : form.prices ≡ true
  pub own_scale : form.fixed_places ≡ false
  pub no_expenditure : takes form Expenditure ≡ false
  pub no_income : takes form Income ≡ false

-- the names in headers, and the number at a record under a mark
abbrev priced_names : Form → List (List ℕ) → List (List ℕ)
priced_names form headers = names_with form.marks is_price headers

abbrev number_under : List ℕ → Form → List (List ℕ) → List (List ℕ) → ℕ → ℕ → ℕ
number_under mark form headers sizes t g = slice_index (text_at sizes t) (column_of mark headers (priced_names form headers) g)

-- the places of a scale that is the file's own
own_places : (fixed : Bool) (given own : ℕ) → fixed ≡ false → own ≤ 6 → (if fixed then given else own) ≤ 6
own_places true given own e few = cc e
own_places false given own e few = few

-- all columns have one limit, where none has what is spent
limit_is : (taken : Role → Bool) → taken Expenditure ≡ false → taken Income ≡ false → (o : Option Role) → option_map_or taken o false ≡ true → limit_of (unwrap_or o Observation) ≡ 9999999
limit_is taken m w None e = cc e
limit_is taken m w (Some Observation) e = refl
limit_is taken m w (Some Price) e = refl
limit_is taken m w (Some Quantity) e = refl
limit_is taken m w (Some Expenditure) e = cc (sym m ∙ e)
limit_is taken m w (Some Income) e = cc (sym w ∙ e)
limit_is taken m w (Some Budget) e = refl
limit_is taken m w (Some Times) e = refl
limit_is taken m w (Some Output) e = refl
limit_is taken m w (Some OutputPrice) e = refl
limit_is taken m w (Some Menu) e = refl
limit_is taken m w (Some Choice) e = refl
limit_is taken m w (Some OwnLevel) e = refl

within_headers : (headers : List (List ℕ)) → 0 < length headers → (text : List ℕ) → unwrap_or (place_of headers text) 0 < length headers
within_headers headers some text = by (place_of headers text) refl
  where
    by : (o : Option ℕ) → place_of headers text ≡ o → unwrap_or o 0 < length headers
    by None e = some
    by (Some c) e = (found_at headers text c e).0

module _ (form : Form) (headers : List (List ℕ)) (records : List (List (List ℕ))) (kind : IsPriced form) (good : GoodHeaders form headers) (fine_fields : fields_stage form headers records ≡ None) (fine_sizes : sizes_stage form headers (figures_of form headers records) ≡ None) where
  some_names : 1 ≤ length (priced_names form headers)
  some_names = rw kind.priced at (good.fine.some (rw kind.priced refl))

  few_names : length (priced_names form headers) ≤ 16
  few_names = rw kind.priced at good.fine.few

  first_column : 0 < length headers
  first_column = let price = price_column form.marks headers 0 some_names in omega (arith, price.1)

  -- a scaled number is within the limit
  number_within : (t g : ℕ) (mark : List ℕ) → t < rows_in records → number_under mark form headers (sizes_in form headers records) t g ≤ 9999999
  number_within t g mark row =
      let c = column_of mark headers (priced_names form headers) g in
      let column = within_headers headers first_column (mark ++ text_at (priced_names form headers) g) in
      let limit = limit_is (takes form) kind.no_expenditure kind.no_income (role_of form.marks (text_at headers c)) (good.fine.taken c column) in
      rw (← limit) (within_limit form headers records fine_fields fine_sizes t c row column)

  -- a price is not 0
  price_positive : (t g : ℕ) → t < rows_in records → g < length (priced_names form headers) → 1 ≤ number_under (mark_of_prices form.marks) form headers (sizes_in form headers records) t g
  price_positive t g row place =
      let price = price_column form.marks headers g place in
      let at_column : column_of (mark_of_prices form.marks) headers (priced_names form headers) g ≡ price.0 = ap (λ o. unwrap_or o 0) price.2 in
      rw at_column (price_at form headers records fine_fields fine_sizes t price.0 row price.1 price.3).0

  -- only quantities say how much is bought
  measured_quantity : (o : Option Role) → option_map_or (takes form) o false ≡ true → measures (unwrap_or o Observation) ≡ true → o ≡ Some Quantity
  measured_quantity = measured_role (takes form) Quantity (λ e. refl) (λ e. cc (sym kind.no_expenditure ∙ e)) (λ e. cc (sym kind.no_income ∙ e))

  -- something is bought
  some_bought : (t : ℕ) → t < rows_in records → (g : ℕ) × (g < length (priced_names form headers)) × (1 ≤ number_under (mark_of_quantities form.marks) form headers (sizes_in form headers records) t g)
  some_bought t row =
      let quantity = some_quantity headers kind.priced good in
      let column = bought_at form headers records fine_fields fine_sizes t quantity.0 row quantity.1 (rw quantity.2 refl) in
      let role = measured_quantity (role_of form.marks (text_at headers column.0)) (good.fine.taken column.0 column.1) column.2 in
      let of_good = quantity_good_of headers good column.0 column.1 role in
      let at_column : column_of (mark_of_quantities form.marks) headers (priced_names form headers) of_good.0 ≡ column.0 = ap (λ o. unwrap_or o 0) of_good.2 in
      (of_good.0, of_good.1, rw at_column column.3)

  rows_count : length (sizes_in form headers records) ≡ rows_in records
  rows_count = sizes_are form headers records

  pub priced_records : (levels : List ℕ) → records_of (priced_table form headers (figures_of form headers records) levels) ≡ rows_in records
  priced_records levels =
      ap (λ (k : ℕ). k / length (priced_names form headers)) (length-rows (length (sizes_in form headers records)) (length (priced_names form headers)) _)
      ∙ mul-div_cancel (length (sizes_in form headers records)) some_names ∙ rows_count

  -- the table is within the limits, if its levels are
  pub priced_is : (levels : List ℕ) → AreOwnLevels (rows_in records) levels → 1 ≤ rows_in records → rows_in records ≤ RECORDS → IsTable (priced_table form headers (figures_of form headers records) levels)
  unfolding places_of
  priced_is levels levels_are some few =
      let sizes = sizes_in form headers records in
      let goods = length (priced_names form headers) in
      record {
        some_goods = some_names;
        few_goods = few_names;
        distinct = distinct_names headers good.fine;
        some_records = rw (priced_records levels) some;
        few_records = rw (priced_records levels) few;
        all_prices = rw (priced_records levels) (length-rows (length sizes) goods _ ∙ ap (λ (k : ℕ). k * goods) rows_count);
        all_quantities = rw (priced_records levels) (length-rows (length sizes) goods _ ∙ ap (λ (k : ℕ). k * goods) rows_count);
        price_limits = all_rows IsPrice (length sizes) goods _
            (λ t g row place. let inside : t < rows_in records = omega (arith, rows_count) in (price_positive t g inside place, number_within t g (mark_of_prices form.marks) inside));
        quantity_limits = all_rows (λ q. q ≤ 9999999) (length sizes) goods _
            (λ t g row place. let inside : t < rows_in records = omega (arith, rows_count) in number_within t g (mark_of_quantities form.marks) inside);
        bought = λ t row.
            let inside : t < rows_in records = rw (priced_records levels) at row in
            let some_good = some_bought t inside in
            let at_row : t < length sizes = omega (arith, rows_count) in
            let number = row_number (length sizes) goods (number_under (mark_of_quantities form.marks) form headers sizes) t some_good.0 at_row some_good.1 in
            let least = sum_at_least (quantity_of (priced_table form headers (figures_of form headers records) levels) t) goods some_good.0 some_good.1 in
            let one = some_good.2 in
            omega (arith, least, number, one);
        few_price_places = few_places form headers records Price;
        few_quantity_places = own_places form.fixed_places form.places _ kind.own_scale (few_places form headers records Quantity);
        own_levels = rw (priced_records levels) levels_are;
      }

-- the numbers under a mark of a table within the limits
pub priced_limits : (form : Form) (headers : List (List ℕ)) (figures : List (List Decimal)) (levels : List ℕ) (given sizes : List (List ℕ)) (mark : List ℕ)
    → given ≡ names_with form.marks is_price headers → sizes ≡ sizes_of form headers figures → (mark ≡ mark_of_prices form.marks) ⊎ (mark ≡ mark_of_quantities form.marks) → IsTable (priced_table form headers figures levels)
    → (t g : ℕ) → t < length sizes → g < length given → slice_index (text_at sizes t) (column_of mark headers given g) ≤ 9999999
priced_limits form headers figures levels given sizes mark named sized (inl is) within =
    rw (named, sized, is) (λ t g row place. (each_row IsPrice (length (sizes_of form headers figures)) (length (priced_names form headers)) (number_under (mark_of_prices form.marks) form headers (sizes_of form headers figures)) within.price_limits t g row place).1)
priced_limits form headers figures levels given sizes mark named sized (inr is) within =
    rw (named, sized, is) (λ t g row place. each_row (λ q. q ≤ 9999999) (length (sizes_of form headers figures)) (length (priced_names form headers)) (number_under (mark_of_quantities form.marks) form headers (sizes_of form headers figures)) within.quantity_limits t g row place)
