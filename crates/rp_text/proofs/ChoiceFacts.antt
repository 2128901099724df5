-- Records without a fault make choices within the limits.
use Rattle.std.proofs.Common.{◌≡◌, ℕ, ◌-◌, ◌*◌, ◌<◌, ◌≤◌, true, List, length, map, slice_index, Some, None, Ok, Err, refl, sym, ap, ◌∙◌, subst, arith}
use Rattle.std.specs.Prelude.{codes, unwrap_or}
use Rattle.std.proofs.lemmas.List.{length-map}
use Rattle.std.proofs.lemmas.List.Elements.{All-map}
use Rattle.rp_num.specs.declared.decimal.Decimal.{Decimal}
use Rattle.rp_table.specs.ChoiceLists.{IsChoiceList}
use Rattle.std.specs.List.{All}
use Rattle.rp_limits.specs.declared.table.TheConstants.{BUDGETS, GOODS, LARGEST}
use Rattle.rp_forms.specs.Texts.{text_at}
use Rattle.rp_forms.specs.Columns.{Layout, role_of, named_role, role_at, quantity_mark}
use Rattle.rp_forms.specs.Forms.{choices_form}
use Rattle.rp_sheet.specs.Records.{record_at}
use Rattle.rp_sheet.specs.Headers.{headers_in, has, goods_stage}
use Rattle.rp_sheet.specs.Fields.{rows_in, fields_stage, figures_of}
use Rattle.rp_sheet.specs.Sizes.{sizes_stage}
use Rattle.rp_forms.specs.Columns.{limit_of}
use Rattle.rp_sheet.specs.ChoiceCounts.{column_named}
use Rattle.rp_text.specs.Denotation.{choice_list, choices_of, denoted_choices}
use Rattle.rp_sheet.specs.SheetFiles.{IsReadFrom}
use Rattle.rp_sheet.specs.Sheets.{first_fault, column_of, column_numbers, numbers_under}
use Rattle.rp_forms.specs.declared.form.Marks.TheVariants.{Goods}
use Rattle.rp_forms.specs.declared.form.Role.{Role}
use Rattle.rp_forms.specs.declared.form.Role.TheVariants.{Budget, Times}
use Rattle.rp_sheet.specs.declared.fault.TableFault.{TableFault}
use Rattle.rp_num.proofs.BelowLemmas.{length-listed}
use Rattle.rp_num.proofs.RowsBelow.{all_listed, each_row}
use Rattle.rp_sheet.proofs.FieldFaults.{role_is}
use Rattle.rp_sheet.proofs.FineHeaders.{FineHeaders, fine_headers, required_there, column_there}
use Rattle.rp_sheet.proofs.ColumnSizes.{sizes_in, sizes_are, within_limit, budget_at}
use Rattle.rp_sheet.proofs.FixedHeaders.{numbers_within, numbers_of_goods}
use Rattle.rp_sheet.proofs.FileLemmas.{denoted_fault, denoted_value, of_read, read_as, scaled_numbers}
use Rattle.rp_sheet.proofs.StagesPassed.{counted, passed}

pub budget_says : role_of Goods (codes "budget") ≡ Some Budget
unfolding role_of named_role
budget_says = refl

pub times_say : role_of Goods (codes "n") ≡ Some Times
unfolding role_of named_role
times_say = refl

less_one : (n budgets : ℕ) → n ≤ budgets → budgets ≤ 48 → n - 1 < 48
less_one n budgets within few = omega arith

module _ (budgets : ℕ) (goods headers : List (List ℕ)) (records : List (List (List ℕ))) (fine : FineHeaders (choices_form budgets) headers) (sound : goods_stage (choices_form budgets) goods headers ≡ None)
    (fine_fields : fields_stage (choices_form budgets) headers records ≡ None) (fine_sizes : sizes_stage (choices_form budgets) headers (figures_of (choices_form budgets) headers records) ≡ None) where
  pub both_there : (has headers (codes "budget") ≡ true) × (has headers (codes "n") ≡ true)
  both_there =
      let budget = required_there (has headers (codes "budget")) _ fine.columns in
      (budget.0, (required_there (has headers (codes "n")) _ budget.1).0)

  pub budget_within : (t : ℕ) → t < rows_in records → slice_index (text_at (sizes_in (choices_form budgets) headers records) t) (column_named (codes "budget") headers) ≤ budgets
  budget_within t row =
      let column = column_there headers (codes "budget") both_there.0 in
      let at_column : column_named (codes "budget") headers ≡ column.0 = ap (λ o. unwrap_or o 0) column.2 in
      rw at_column (budget_at (choices_form budgets) headers records fine_fields fine_sizes t column.0 row column.1 (ap (role_of Goods) column.3 ∙ budget_says))

  times_within : (t : ℕ) → t < rows_in records → slice_index (text_at (sizes_in (choices_form budgets) headers records) t) (column_named (codes "n") headers) ≤ 9999999
  times_within t row =
      let column = column_there headers (codes "n") both_there.1 in
      let at_column : column_named (codes "n") headers ≡ column.0 = ap (λ o. unwrap_or o 0) column.2 in
      let role : role_at Goods headers column.0 ≡ Times = role_is _ headers column.0 Times (ap (role_of Goods) column.3 ∙ times_say) in
      let most = subst (λ (r : Role). slice_index (text_at (sizes_in (choices_form budgets) headers records) t) column.0 ≤ limit_of r) role (within_limit (choices_form budgets) headers records fine_fields fine_sizes t column.0 row column.1) in
      rw at_column most

  rows_count : length (sizes_in (choices_form budgets) headers records) ≡ rows_in records
  rows_count = sizes_are (choices_form budgets) headers records

  count : length (map (λ number. number - 1) (column_numbers (codes "budget") headers (sizes_in (choices_form budgets) headers records))) ≡ length (sizes_in (choices_form budgets) headers records)
  count = length-map (column_numbers (codes "budget") headers (sizes_in (choices_form budgets) headers records)) (λ number. number - 1) ∙ length-listed _ (length (sizes_in (choices_form budgets) headers records))

  -- the choices are within the limits
  choices_are : 1 ≤ rows_in records → rows_in records ≤ 4096 → 1 ≤ length goods → length goods ≤ 16 → budgets ≤ 48 → IsChoiceList (choice_list headers goods (sizes_in (choices_form budgets) headers records))
  choices_are some few some_goods few_goods few_budgets = record {
    some_goods = some_goods;
    few_goods = few_goods;
    some_choices = rw (count, rows_count) some;
    few_choices = rw (count, rows_count) few;
    all_quantities = numbers_of_goods quantity_mark headers goods (sizes_in (choices_form budgets) headers records) ∙ ap (λ (k : ℕ). k * length goods) (sym count);
    all_times = length-listed _ (length (sizes_in (choices_form budgets) headers records)) ∙ sym count;
    budget_limits = All-map (λ j. j < 48) (λ number. number - 1) (column_numbers (codes "budget") headers (sizes_in (choices_form budgets) headers records))
        (all_listed (λ number. number - 1 < 48) (length (sizes_in (choices_form budgets) headers records)) _
        (λ t row. let inside : t < rows_in records = omega (arith, rows_count) in less_one _ budgets (budget_within t inside) few_budgets));
    quantity_limits = numbers_within (choices_form budgets) goods headers records fine refl sound fine_fields fine_sizes;
    times_limits = all_listed (λ n. n ≤ 9999999) (length (sizes_in (choices_form budgets) headers records)) _
        (λ t row. let inside : t < rows_in records = omega (arith, rows_count) in times_within t inside);
  }

pub choices_within : {budgets : ℕ} {goods : List (List ℕ)} {records : List (List (List ℕ))} {columns : Layout} {figures : List (List Decimal)} {sizes : List (List ℕ)} → IsReadFrom (choices_form budgets) goods records columns figures sizes
    → 1 ≤ length goods → length goods ≤ GOODS → budgets ≤ BUDGETS → IsChoiceList (choice_list columns.headers goods sizes)
choices_within {budgets} {goods} {records} read some few few_budgets =
    let stages = passed (choices_form budgets) goods records read.faultless in
    let count = counted (choices_form budgets) records stages.3 in
    let fine = fine_headers (choices_form budgets) goods (headers_in (record_at records 0)) stages.1 stages.2 in
    of_read (λ h _ s. IsChoiceList (choice_list h goods s)) read (choices_are budgets goods (headers_in (record_at records 0)) records fine stages.2 stages.4 stages.5 count.0 count.1 some few few_budgets)

module _ {budgets : ℕ} {goods given : List (List ℕ)} {records : List (List (List ℕ))} {columns : Layout} {figures : List (List Decimal)} {sizes scaled : List (List ℕ)} (read : IsReadFrom (choices_form budgets) goods records columns figures sizes)
    (some : 1 ≤ length goods) (few : length goods ≤ GOODS) (few_budgets : budgets ≤ BUDGETS) (named : given ≡ goods) (same : scaled ≡ sizes) where
  within : IsChoiceList (choice_list columns.headers given scaled)
  within = choices_within (read_as named refl same read) (rw named some) (rw named few) few_budgets

  -- each number of a sheet that no stage refuses is within its limit
  pub choice_limits : (t g : ℕ) → t < length scaled → g < length given → slice_index (text_at scaled t) (column_of quantity_mark columns.headers given g) ≤ LARGEST
  choice_limits = each_row (λ q. q ≤ LARGEST) (length scaled) (length given) (λ t g. slice_index (text_at scaled t) (column_of quantity_mark columns.headers given g)) within.quantity_limits

  pub budget_limits : (numbers : List ℕ) → numbers ≡ column_numbers (codes "budget") columns.headers scaled → All (λ j. j < BUDGETS) (map (λ number. number - 1) numbers)
  budget_limits numbers numbered = rw numbered within.budget_limits

  pub times_limits : (counts : List ℕ) → counts ≡ column_numbers (codes "n") columns.headers scaled → All (λ n. n ≤ LARGEST) counts
  times_limits counts numbered = rw numbered within.times_limits

  -- its choices are within the limits, and those of its numbers
  pub choices_made : (n : ℕ) (numbers budget quantities counts times : List ℕ) → n ≡ length goods → numbers ≡ column_numbers (codes "budget") columns.headers scaled → budget ≡ map (λ number. number - 1) numbers
      → quantities ≡ numbers_under quantity_mark columns.headers given scaled → counts ≡ column_numbers (codes "n") columns.headers scaled → times ≡ counts
      → IsChoiceList (record { goods = n; budget = budget; quantities = quantities; times = times }) × (record { goods = n; budget = budget; quantities = quantities; times = times } ≡ choice_list columns.headers given scaled)
  choices_made n numbers budget quantities counts times count numbered from_zero bought numbered_times narrow =
      let count_given = count ∙ sym (ap length named) in
      let list : record { goods = n; budget = budget; quantities = quantities; times = times } ≡ choice_list columns.headers given scaled = rw (count_given, from_zero, numbered, bought, narrow, numbered_times) refl in
      (subst IsChoiceList (sym list) within, list)

  pub choices_exact : choice_list columns.headers given scaled ≡ choices_of budgets goods columns.headers figures
  unfolding choices_of
  choices_exact = ap (choice_list columns.headers given) (scaled_numbers (read_as named refl same read)) ∙ ap (λ names. choices_of budgets names columns.headers figures) named

-- what records denote as choices, by their first fault
pub refused_choices : (budgets : ℕ) (goods : List (List ℕ)) (records : List (List (List ℕ))) (e : TableFault) → first_fault (choices_form budgets) goods records ≡ Some e → denoted_choices budgets goods records ≡ Err e
unfolding denoted_choices
refused_choices budgets goods records e faulty = denoted_fault (choices_form budgets) goods (choices_of budgets goods) records e faulty

pub choices_there : (budgets : ℕ) (goods : List (List ℕ)) (records : List (List (List ℕ))) → first_fault (choices_form budgets) goods records ≡ None
    → denoted_choices budgets goods records ≡ Ok (choice_list (headers_in (record_at records 0)) goods (sizes_in (choices_form budgets) (headers_in (record_at records 0)) records))
unfolding denoted_choices choices_of
choices_there budgets goods records fine = denoted_value (choices_form budgets) goods (choices_of budgets goods) records fine
