-- Records without a fault make budgets within the limits.
use Rattle.std.proofs.Common.{◌≡◌, ℕ, ◌*◌, ◌<◌, ◌≤◌, true, false, [], List, length, slice_index, Option, Some, None, Ok, Err, refl, sym, ap, ◌∙◌, subst, arith}
use Rattle.std.specs.Prelude.{codes, unwrap_or}
use Rattle.std.specs.Option.{option_map_or}
use Rattle.rp_num.specs.declared.decimal.Decimal.{Decimal}
use Rattle.rp_table.specs.Limits.{IsPrice}
use Rattle.rp_limits.specs.declared.table.TheConstants.{LARGEST, LARGEST_EXPENDITURE}
use Rattle.rp_table.specs.BudgetLists.{IsBudgetList}
use Rattle.rp_forms.specs.Texts.{text_at}
use Rattle.rp_forms.specs.Columns.{Layout, role_of, takes, measures, is_price, names_with, price_mark}
use Rattle.rp_forms.specs.Forms.{budgets_form}
use Rattle.rp_sheet.specs.Records.{record_at}
use Rattle.rp_sheet.specs.Headers.{headers_in, has}
use Rattle.rp_sheet.specs.Fields.{rows_in, fields_stage, figures_of}
use Rattle.rp_sheet.specs.Sizes.{sizes_of, sizes_stage}
use Rattle.rp_sheet.specs.ChoiceCounts.{column_named}
use Rattle.rp_text.specs.Denotation.{budget_list, budgets_of, denoted_budgets}
use Rattle.rp_sheet.specs.SheetFiles.{IsReadFrom}
use Rattle.rp_sheet.specs.Sheets.{first_fault, column_of, column_numbers, numbers_under}
use Rattle.rp_forms.specs.declared.form.Form.{Form}
use Rattle.rp_forms.specs.declared.form.Marks.TheVariants.{Goods}
use Rattle.rp_forms.specs.declared.form.Role.{Role}
use Rattle.rp_forms.specs.declared.form.Role.TheVariants.{Observation, Income}
use Rattle.rp_sheet.specs.declared.fault.TableFault.{TableFault}
use Rattle.rp_num.proofs.BelowLemmas.{length-listed}
use Rattle.rp_num.proofs.RowsBelow.{length-rows, all_rows, all_listed, each_row}
use Rattle.rp_sheet.proofs.MeasuredRoles.{measured_role}
use Rattle.rp_sheet.proofs.FineHeaders.{FineHeaders, fine_headers, required_there}
use Rattle.rp_sheet.proofs.GoodHeaders.{price_column}
use Rattle.rp_sheet.proofs.ColumnSizes.{sizes_in, sizes_are, price_at}
use Rattle.rp_sheet.proofs.AmountColumns.{income_header, income_says, amount_within}
use Rattle.rp_sheet.proofs.FileLemmas.{denoted_fault, denoted_value, of_read, read_as, scaled_numbers}
use Rattle.rp_sheet.proofs.StagesPassed.{counted, passed}

-- only an income says how much is bought
measured_income : (o : Option Role) → option_map_or (takes budgets_form) o false ≡ true → measures (unwrap_or o Observation) ≡ true → o ≡ Some Income
measured_income = measured_role (takes budgets_form) Income (λ e. cc e) (λ e. cc e) (λ e. refl)

module _ (headers : List (List ℕ)) (records : List (List (List ℕ))) (fine : FineHeaders budgets_form headers) (fine_fields : fields_stage budgets_form headers records ≡ None) (fine_sizes : sizes_stage budgets_form headers (figures_of budgets_form headers records) ≡ None) where
  price_within : (t g : ℕ) → t < rows_in records → g < length (names_with Goods is_price headers)
      → (1 ≤ slice_index (text_at (sizes_in budgets_form headers records) t) (column_of price_mark headers (names_with Goods is_price headers) g))
      × (slice_index (text_at (sizes_in budgets_form headers records) t) (column_of price_mark headers (names_with Goods is_price headers) g) ≤ 9999999)
  price_within t g row place =
      let price = price_column Goods headers g place in
      let at_column : column_of price_mark headers (names_with Goods is_price headers) g ≡ price.0 = ap (λ o. unwrap_or o 0) price.2 in
      rw at_column (price_at budgets_form headers records fine_fields fine_sizes t price.0 row price.1 price.3)

  income_within : (t : ℕ) → t < rows_in records
      → (1 ≤ slice_index (text_at (sizes_in budgets_form headers records) t) (column_named (codes "w") headers))
      × (slice_index (text_at (sizes_in budgets_form headers records) t) (column_named (codes "w") headers) ≤ LARGEST_EXPENDITURE)
  income_within =
      amount_within budgets_form headers records fine fine_fields fine_sizes (codes "w") Income
      (required_there (has headers (codes "w")) _ fine.columns).0
      (income_says Goods) refl
      (λ c column measured. income_header _ (text_at headers c) (measured_income (role_of Goods (text_at headers c)) (fine.taken c column) measured))

  rows_count : length (sizes_in budgets_form headers records) ≡ rows_in records
  rows_count = sizes_are budgets_form headers records

  income_count : length (column_numbers (codes "w") headers (sizes_in budgets_form headers records)) ≡ length (sizes_in budgets_form headers records)
  income_count = length-listed _ (length (sizes_in budgets_form headers records))

  -- the budgets are within the limits
  pub budgets_are : 1 ≤ rows_in records → rows_in records ≤ 48 → IsBudgetList (budget_list headers (names_with Goods is_price headers) (sizes_in budgets_form headers records))
  budgets_are some few = record {
    some_goods = fine.some refl;
    few_goods = fine.few;
    some_budgets = rw (income_count, rows_count) some;
    few_budgets = rw (income_count, rows_count) few;
    all_prices = length-rows (length (sizes_in budgets_form headers records)) (length (names_with Goods is_price headers)) _ ∙ ap (λ (k : ℕ). k * length (names_with Goods is_price headers)) (sym income_count);
    price_limits = all_rows IsPrice (length (sizes_in budgets_form headers records)) (length (names_with Goods is_price headers)) _
        (λ t g row place. let inside : t < rows_in records = omega (arith, rows_count) in price_within t g inside place);
    income_limits = all_listed (λ w. (1 ≤ w) × (w ≤ LARGEST_EXPENDITURE)) (length (sizes_in budgets_form headers records)) _
        (λ t row. let inside : t < rows_in records = omega (arith, rows_count) in income_within t inside);
  }

pub budgets_within : (records : List (List (List ℕ))) → first_fault budgets_form [] records ≡ None
    → IsBudgetList (budget_list (headers_in (record_at records 0)) (names_with Goods is_price (headers_in (record_at records 0))) (sizes_in budgets_form (headers_in (record_at records 0)) records))
budgets_within records fine =
    let stages = passed budgets_form [] records fine in
    let count = counted budgets_form records stages.3 in
    budgets_are (headers_in (record_at records 0)) records (fine_headers budgets_form [] (headers_in (record_at records 0)) stages.1 stages.2) stages.4 stages.5 count.0 count.1

module _ {records : List (List (List ℕ))} {columns : Layout} {figures : List (List Decimal)} {sizes given scaled : List (List ℕ)} (read : IsReadFrom budgets_form [] records columns figures sizes)
    (named : given ≡ names_with columns.form.marks is_price columns.headers) (same : scaled ≡ sizes) where
  names_are : given ≡ names_with Goods is_price columns.headers
  names_are = named ∙ ap (λ (form : Form). names_with form.marks is_price columns.headers) read.kind

  within : IsBudgetList (budget_list columns.headers given scaled)
  within =
      let sheet = of_read (λ h _ s. IsBudgetList (budget_list h (names_with Goods is_price h) s)) (read_as refl refl same read) (budgets_within records read.faultless) in
      subst (λ names. IsBudgetList (budget_list columns.headers names scaled)) (sym names_are) sheet

  -- each price of a sheet that no stage refuses is within the limit
  pub budget_limits : (t g : ℕ) → t < length scaled → g < length given → slice_index (text_at scaled t) (column_of price_mark columns.headers given g) ≤ LARGEST
  budget_limits t g row place =
      (each_row IsPrice (length scaled) (length given) (λ s k. slice_index (text_at scaled s) (column_of price_mark columns.headers given k)) within.price_limits t g row place).1

  -- its budgets are within the limits, and those of its numbers
  pub budgets_made : (prices w : List ℕ) → prices ≡ numbers_under price_mark columns.headers given scaled → w ≡ column_numbers (codes "w") columns.headers scaled
      → IsBudgetList (record { names = given; prices = prices; w = w }) × (record { names = given; prices = prices; w = w } ≡ budgets_of columns.headers figures)
  unfolding budgets_of
  budgets_made prices w numbered incomes =
      let list : record { names = given; prices = prices; w = w } ≡ budget_list columns.headers given scaled = rw (numbered, incomes) refl in
      let exact = ap (budget_list columns.headers given) (scaled_numbers (read_as refl refl same read)) in
      (subst IsBudgetList (sym list) within, list ∙ exact ∙ ap (λ names. budget_list columns.headers names (sizes_of budgets_form columns.headers figures)) names_are)

-- what records denote as budgets, by their first fault
pub refused_budgets : (records : List (List (List ℕ))) (e : TableFault) → first_fault budgets_form [] records ≡ Some e → denoted_budgets records ≡ Err e
unfolding denoted_budgets
refused_budgets records e faulty = denoted_fault budgets_form [] budgets_of records e faulty

pub budgets_there : (records : List (List (List ℕ))) → first_fault budgets_form [] records ≡ None
    → denoted_budgets records ≡ Ok (budget_list (headers_in (record_at records 0)) (names_with Goods is_price (headers_in (record_at records 0))) (sizes_in budgets_form (headers_in (record_at records 0)) records))
unfolding denoted_budgets budgets_of
budgets_there records fine = denoted_value budgets_form [] budgets_of records fine
