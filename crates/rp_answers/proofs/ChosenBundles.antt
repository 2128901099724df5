-- Choices that a file denotes are full: no bundle in it is empty, since a record in which nothing is bought is refused.
use Rattle.std.proofs.Common.{◌≡◌, ℕ, ◌+◌, ◌-◌, ◌*◌, ◌<◌, ◌≤◌, Bool, true, false, not, ◌&&◌, ◌||◌, if◌then◌else◌, [], List, ◌++◌, length, slice_index, Option, Some, None, Ok, refl, sym, ap, ◌∙◌, subst, arith}
use Rattle.std.specs.Prelude.{codes, unwrap_or}
use Rattle.std.specs.Option.{option_map_or}
use Rattle.std.specs.Result.{result_unwrap_or}
use Rattle.std.proofs.lemmas.List.{length-map}
use Rattle.std.proofs.lemmas.Nat.{mul-add-lt, mul-le}
use Rattle.std.proofs.Math.Nat.{mul_comm}
use Rattle.rp_num.proofs.BelowLemmas.{length-listed}
use Rattle.rp_table.specs.BudgetLists.{BudgetList, IsBudgetList}
use Rattle.rp_table.specs.ChoiceLists.{ChoiceList}
use Rattle.rp_table.specs.Spending.{spending}
use Rattle.rp_forms.specs.Columns.{is_price, is_quantity, measures, name_in, quantity_mark, role_at, role_of, takes}
use Rattle.rp_forms.specs.Forms.{budgets_form, choices_form}
use Rattle.rp_forms.specs.Texts.{place_of, text_at}
use Rattle.rp_forms.specs.declared.form.Marks.TheVariants.{Goods}
use Rattle.rp_forms.specs.declared.form.Role.TheVariants.{Expenditure, Income, Quantity}
use Rattle.rp_sheet.specs.Fields.{fields_stage, figures_of, rows_in}
use Rattle.rp_sheet.specs.Headers.{goods_stage, has, headers_in, other_goods_fault, present_fault}
use Rattle.rp_sheet.specs.Records.{record_at, records_in}
use Rattle.rp_sheet.specs.Sheets.{column_numbers, column_of, first_fault}
use Rattle.rp_sheet.specs.Sizes.{sizes_stage}
use Rattle.rp_sheet.specs.declared.fault.TableFault.{TableFault}
use Rattle.rp_sheet.proofs.ColumnSizes.{bought_at, sizes_are, sizes_in}
use Rattle.rp_sheet.proofs.FieldFaults.{role_is}
use Rattle.rp_sheet.proofs.FineHeaders.{FineHeaders, fine_goods, fine_headers, same_place, there_from}
use Rattle.rp_sheet.proofs.FixedHeaders.{good_column}
use Rattle.rp_sheet.proofs.GoodHeaders.{marked_quantity, quantity_header}
use Rattle.rp_sheet.proofs.MeasuredRoles.{measured_role}
use Rattle.rp_sheet.proofs.PlaceLemmas.{found_at, none_below, present}
use Rattle.rp_num.proofs.RowsBelow.{row_number}
use Rattle.rp_table.proofs.SumsBelow.{sum_at_least}
use Rattle.rp_sheet.proofs.StagesPassed.{passed}
use Rattle.rp_text.specs.Denotation.{budgets_in, choice_list, choices_on}
use Rattle.rp_text.proofs.BudgetFacts.{budgets_there, budgets_within, refused_budgets}
use Rattle.rp_text.proofs.ChoiceFacts.{choices_there, refused_choices}
use Rattle.rp_patch.specs.Choices.{random_input_of}
use Rattle.rp_persons.specs.PersonMixtures.{IsFullRandomInput}

no_other : (a b : Bool) (f : TableFault) → (if a && not b then Some f else None) ≡ None → a ≡ true → b ≡ true
no_other true true f e h = refl
no_other true false f e h = cc e
no_other false b f e h = cc h

module _ (budgets : ℕ) (goods headers : List (List ℕ)) (records : List (List (List ℕ))) (fine : FineHeaders (choices_form budgets) headers) (sound : goods_stage (choices_form budgets) goods headers ≡ None)
    (fine_fields : fields_stage (choices_form budgets) headers records ≡ None) (fine_sizes : sizes_stage (choices_form budgets) headers (figures_of (choices_form budgets) headers records) ≡ None) where
  -- a column of quantities is that of a given good
  of_given : (c : ℕ) → c < length headers → role_of Goods (text_at headers c) ≡ Some Quantity
      → (g : ℕ) × (g < length goods) × (place_of headers (quantity_mark ++ text_at goods g) ≡ Some c)
  unfolding present_fault other_goods_fault
  of_given c within says =
      let header = text_at headers c in
      let is_good : (is_price (role_at Goods headers c) || is_quantity (role_at Goods headers c)) ≡ true = rw says refl in
      let none = none_below (other_goods_fault Goods goods headers) (length headers) c (fine_goods (choices_form budgets) goods headers sound).0 within in
      let there : has goods (name_in header) ≡ true = no_other (is_price (role_at Goods headers c) || is_quantity (role_at Goods headers c)) (has goods (name_in header)) _ none is_good in
      let found = there_from (place_of goods (name_in header)) there in
      let place = found_at goods (name_in header) found.0 found.1 in
      let quantity : option_map_or is_quantity (role_of Goods header) false ≡ true = rw says refl in
      let name = quantity_header Goods header quantity in
      let spelled : quantity_mark ++ text_at goods found.0 ≡ header = ap (λ n. quantity_mark ++ n) place.1 ∙ sym (marked_quantity Goods header name.1) in
      let at_column = present headers (quantity_mark ++ text_at goods found.0) c within (sym spelled) in
      let back = found_at headers (quantity_mark ++ text_at goods found.0) at_column.0 at_column.1 in
      let same = same_place headers fine at_column.0 c back.0 within (back.1 ∙ spelled) in
      (found.0, place.0, at_column.1 ∙ ap Some same)

  abbrev number : ℕ → ℕ → ℕ
  number t g = slice_index (text_at (sizes_in (choices_form budgets) headers records) t) (column_of quantity_mark headers goods g)

  -- each record has some of a good
  some_chosen : 1 ≤ length goods → (t : ℕ) → t < rows_in records → (g : ℕ) × (g < length goods) × (1 ≤ number t g)
  some_chosen some t row =
      let first = good_column (choices_form budgets) goods headers fine refl sound 0 some in
      let measured : measures (role_at Goods headers first.0) ≡ true = ap measures (role_is _ headers first.0 Quantity first.3) in
      let bought = bought_at (choices_form budgets) headers records fine_fields fine_sizes t first.0 row first.1 measured in
      let no_expenditure : takes (choices_form budgets) Expenditure ≡ false = refl in
      let no_income : takes (choices_form budgets) Income ≡ false = refl in
      let role : role_of Goods (text_at headers bought.0) ≡ Some Quantity =
      measured_role (takes (choices_form budgets)) Quantity (λ e. refl) (λ e. cc (sym no_expenditure ∙ e)) (λ e. cc (sym no_income ∙ e))
      (role_of Goods (text_at headers bought.0)) (fine.taken bought.0 bought.1) bought.2 in
      let given = of_given bought.0 bought.1 role in
      let at_column : column_of quantity_mark headers goods given.0 ≡ bought.0 = ap (λ o. unwrap_or o 0) given.2 in
      (given.0, given.1, rw at_column bought.3)

-- a price of 1 or more times a quantity of 1 or more
costs : (goods g : ℕ) (prices quantities : ℕ → ℕ) → g < goods → 1 ≤ prices g → 1 ≤ quantities g → 1 ≤ spending goods prices quantities
costs goods g prices quantities within price quantity =
    let least = sum_at_least (λ i. prices i * quantities i) goods g within in
    let product = mul-le 1 1 (prices g) (quantities g) price quantity in
    omega (arith, least, product)

prices_positive : (budgets : BudgetList) → IsBudgetList budgets → (j g : ℕ) → j < length budgets.w → g < length budgets.names → 1 ≤ slice_index budgets.prices (j * length budgets.names + g)
prices_positive budgets is j g budget good =
    let below = mul-add-lt j (length budgets.names) g (length budgets.w) budget good in
    let turned = mul_comm (length budgets.names) (length budgets.w) in
    (is.price_limits (j * length budgets.names + g) 0 (omega (arith, below, turned, is.all_prices))).0

denoted_full : (budgets : BudgetList) (records : List (List (List ℕ))) → IsBudgetList budgets → first_fault (choices_form (length budgets.w)) budgets.names records ≡ None
    → IsFullRandomInput
    (random_input_of budgets (choice_list (headers_in (record_at records 0)) budgets.names (sizes_in (choices_form (length budgets.w)) (headers_in (record_at records 0)) records)))
denoted_full budgets records is faultless =
    let form = choices_form (length budgets.w) in
    let goods = budgets.names in
    let headers = headers_in (record_at records 0) in
    let sizes = sizes_in form headers records in
    let stages = passed form goods records faultless in
    let fine = fine_headers form goods headers stages.1 stages.2 in
    record {
      some_goods = is.some_goods;
      positive_prices = prices_positive budgets is;
      positive_costs = λ c is_choice on made.
          let numbers = column_numbers (codes "budget") headers sizes in
          let counted_numbers : length numbers ≡ length sizes = length-listed _ (length sizes) in
          let long : c < length sizes = omega (arith, is_choice, length-map numbers (λ n. n - 1), counted_numbers) in
          let row : c < rows_in records = omega (arith, long, sizes_are form headers records) in
          let some = some_chosen (length budgets.w) goods headers records fine stages.2 stages.4 stages.5 is.some_goods c row in
          let at = row_number (length sizes) (length goods) (λ (t g : ℕ). slice_index (text_at sizes t) (column_of quantity_mark headers goods g)) c some.0 long some.1 in
          costs (length goods) some.0 _ _ some.1 (prices_positive budgets is _ some.0 on some.1) (omega (arith, at, some.2));
    }

pub full_choices : (budgets : BudgetList) (bytes : List ℕ) (choices : ChoiceList) → IsBudgetList budgets → choices_on budgets bytes ≡ Ok choices → IsFullRandomInput (random_input_of budgets choices)
full_choices budgets bytes choices is denoted = by (first_fault (choices_form (length budgets.w)) budgets.names (records_in bytes)) refl
  where
    by : (o : Option TableFault) → first_fault (choices_form (length budgets.w)) budgets.names (records_in bytes) ≡ o → IsFullRandomInput (random_input_of budgets choices)
    by None faultless =
        let e = sym (choices_there (length budgets.w) budgets.names (records_in bytes) faultless) ∙ denoted in
        subst (λ (c : ChoiceList). IsFullRandomInput (random_input_of budgets c)) (ap (λ r. result_unwrap_or r choices) e) (denoted_full budgets (records_in bytes) is faultless)
    by (Some fault) faulty = cc (sym (refused_choices (length budgets.w) budgets.names (records_in bytes) fault faulty) ∙ denoted)

-- budgets that a file denotes are within the limits
budgets_limited : (bytes : List ℕ) (budgets : BudgetList) → budgets_in bytes ≡ Ok budgets → IsBudgetList budgets
budgets_limited bytes budgets denoted = by (first_fault budgets_form [] (records_in bytes)) refl
  where
    by : (o : Option TableFault) → first_fault budgets_form [] (records_in bytes) ≡ o → IsBudgetList budgets
    by None faultless =
        let e = sym (budgets_there (records_in bytes) faultless) ∙ denoted in
        subst IsBudgetList (ap (λ r. result_unwrap_or r budgets) e) (budgets_within (records_in bytes) faultless)
    by (Some fault) faulty = cc (sym (refused_budgets (records_in bytes) fault faulty) ∙ denoted)

pub full_files : (first second : List ℕ) (budgets : BudgetList) (choices : ChoiceList) → budgets_in first ≡ Ok budgets → choices_on budgets second ≡ Ok choices → IsFullRandomInput (random_input_of budgets choices)
full_files first second budgets choices is denoted = full_choices budgets second choices (budgets_limited first budgets is) denoted
