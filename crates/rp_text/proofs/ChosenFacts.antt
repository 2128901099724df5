-- Choices without a fault are on the budgets, and each budget was chosen from.
use Rattle.std.proofs.Common.{◌≡◌, ℕ, ◌+◌, ◌-◌, ◌<◌, ◌≤◌, Bool, true, false, not, ◌&&◌, ◌==◌, nat_lt, if◌then◌else◌, List, [], ◌∷◌, length, map, slice_index, Some, None, refl, sym, ap, ◌∙◌, subst, arith}
use Rattle.std.specs.Prelude.{codes, unwrap_or}
use Rattle.std.specs.List.{All}
use Rattle.std.proofs.lemmas.Bool.Decides.{nat_tests}
use Rattle.std.proofs.lemmas.List.{length-map, get_or-map}
use Rattle.std.proofs.lemmas.List.Elements.{All-map}
use Rattle.std.proofs.lemmas.Bool.{and_parts}
use Rattle.rp_num.specs.declared.decimal.Decimal.{Decimal}
use Rattle.rp_table.specs.ChoiceLists.{ChoiceList}
use Rattle.rp_limits.specs.declared.table.TheConstants.{BUDGETS, GOODS}
use Rattle.rp_forms.specs.Texts.{text_at, number_of}
use Rattle.rp_forms.specs.Columns.{Layout, role_of}
use Rattle.rp_forms.specs.Forms.{choices_form}
use Rattle.rp_sheet.specs.Records.{record_at}
use Rattle.rp_sheet.specs.Headers.{headers_in, headers_stage, goods_stage, has}
use Rattle.rp_sheet.specs.Fields.{figures_of, rows_in, count_stage, fields_stage}
use Rattle.rp_sheet.specs.Sizes.{figure_at, places_of, sizes_stage}
use Rattle.rp_sheet.specs.ChoiceCounts.{column_named, is_chosen, choices_stage}
use Rattle.rp_sheet.specs.Chosen.{IsChosenFrom}
use Rattle.rp_text.specs.Denotation.{choice_list, choices_of}
use Rattle.rp_sheet.specs.SheetFiles.{IsReadFrom}
use Rattle.rp_sheet.specs.Sheets.{fault_under, first_fault, column_numbers}
use Rattle.rp_forms.specs.declared.form.Form.{Form}
use Rattle.rp_forms.specs.declared.form.Marks.TheVariants.{Goods}
use Rattle.rp_forms.specs.declared.form.Role.{Role}
use Rattle.rp_forms.specs.declared.form.Role.TheVariants.{Budget, Times}
use Rattle.rp_sheet.specs.declared.fault.TableFault.{TableFault}
use Rattle.rp_sheet.specs.declared.fault.TableFault.TheVariants as fault
use Rattle.rp_num.proofs.BelowLemmas.{length-listed, get-listed}
use Rattle.rp_sheet.proofs.PlaceLemmas.{none_below, none_or, one_below}
use Rattle.rp_num.proofs.RowsBelow.{all_listed}
use Rattle.rp_sheet.proofs.FigureLemmas.{rows_are}
use Rattle.rp_sheet.proofs.FineHeaders.{FineHeaders, fine_headers, column_there}
use Rattle.rp_sheet.proofs.ColumnSizes.{sizes_in, sizes_are, unscaled}
use Rattle.rp_sheet.proofs.FileLemmas.{of_read}
use Rattle.rp_sheet.proofs.StagesPassed.{passed}
use Rattle.rp_text.proofs.ChoiceFacts.{both_there, choices_exact, choices_within, budget_within, budget_says, times_say}

-- the last stage of a file without a fault
last_passed : (form : Form) (goods : List (List ℕ)) (records : List (List (List ℕ))) → first_fault form goods records ≡ None
    → choices_stage form (headers_in (record_at records 0)) (figures_of form (headers_in (record_at records 0)) records) ≡ None
unfolding first_fault fault_under
last_passed form goods [] fine = cc fine
last_passed form goods (header ∷ rows) fine =
    let a = none_or (headers_stage form (headers_in header)) _ fine in
    let b = none_or (goods_stage form goods (headers_in header)) _ a.1 in
    let c = none_or (count_stage form (header ∷ rows)) _ b.1 in
    let d = none_or (fields_stage form (headers_in header) (header ∷ rows)) _ c.1 in
    let e = none_or (sizes_stage form (headers_in header) (figures_of form (headers_in header) (header ∷ rows))) _ d.1 in
    (none_or (choices_stage form (headers_in header) (figures_of form (headers_in header) (header ∷ rows))) None e.1).0

-- a test that gives no fault
no_fault : (b : Bool) (f : TableFault) → (if not b then Some f else None) ≡ None → b ≡ true
no_fault true f e = refl
no_fault false f e = cc e

-- each budget has a record with its number and a count above 0
chosen_record : (budgets : ℕ) (headers : List (List ℕ)) (records : List (List (List ℕ))) → choices_stage (choices_form budgets) headers (figures_of (choices_form budgets) headers records) ≡ None → (j : ℕ) → j < budgets
    → is_chosen headers (figures_of (choices_form budgets) headers records) j ≡ true
unfolding choices_stage
chosen_record budgets headers records stage j below =
    no_fault (is_chosen headers (figures_of (choices_form budgets) headers records) j) (fault.NoChoices (number_of j)) (none_below _ budgets j stage below)

number_is : (n j : ℕ) → (n == j + 1) ≡ true → n - 1 ≡ j
number_is n j e = grind (arith, nat_tests)

over_zero : (n : ℕ) → nat_lt 0 n ≡ true → 0 < n
over_zero n e = grind (arith, nat_tests)

below_all : (n budgets : ℕ) → n ≤ budgets → 1 ≤ budgets → n - 1 < budgets
below_all n budgets within some = omega arith

module _ (budgets : ℕ) (goods headers : List (List ℕ)) (records : List (List (List ℕ))) (fine : FineHeaders (choices_form budgets) headers) (sound : goods_stage (choices_form budgets) goods headers ≡ None)
    (fine_fields : fields_stage (choices_form budgets) headers records ≡ None) (fine_sizes : sizes_stage (choices_form budgets) headers (figures_of (choices_form budgets) headers records) ≡ None)
    (stage : choices_stage (choices_form budgets) headers (figures_of (choices_form budgets) headers records) ≡ None) where
  -- the scaled number in a column of whole numbers is what was written
  written : (header : List ℕ) (role : Role) → has headers header ≡ true → role_of Goods header ≡ Some role → places_of (choices_form budgets) headers (figures_of (choices_form budgets) headers records) role ≡ 0 → (t : ℕ) → t < rows_in records
      → slice_index (text_at (sizes_in (choices_form budgets) headers records) t) (column_named header headers) ≡ (figure_at (figures_of (choices_form budgets) headers records) t (column_named header headers)).units
  written header role there says whole t row =
      let column = column_there headers header there in
      let at_column : column_named header headers ≡ column.0 = ap (λ o. unwrap_or o 0) column.2 in
      rw at_column (unscaled (choices_form budgets) headers records fine_fields fine_sizes t column.0 role row column.1 (ap (role_of Goods) column.3 ∙ says) whole)

  -- a number of a budget is the number of one that there is
  on_budgets : 1 ≤ budgets → All (λ j. j < budgets) (map (λ number. number - 1) (column_numbers (codes "budget") headers (sizes_in (choices_form budgets) headers records)))
  on_budgets some =
      All-map (λ j. j < budgets) (λ number. number - 1) (column_numbers (codes "budget") headers (sizes_in (choices_form budgets) headers records))
      (all_listed (λ number. number - 1 < budgets) (length (sizes_in (choices_form budgets) headers records)) _
      (λ t row. let inside : t < rows_in records = omega (arith, sizes_are (choices_form budgets) headers records) in
      below_all _ budgets (budget_within budgets goods headers records fine sound fine_fields fine_sizes t inside) some))

  -- each budget was chosen from
  every_budget : (j : ℕ) → j < budgets → IsChosenFrom (choice_list headers goods (sizes_in (choices_form budgets) headers records)) j
  unfolding is_chosen places_of
  every_budget j below =
      let figures = figures_of (choices_form budgets) headers records in
      let sizes = sizes_in (choices_form budgets) headers records in
      let test = λ (t : ℕ). ((figure_at figures t (column_named (codes "budget") headers)).units == j + 1) && nat_lt 0 (figure_at figures t (column_named (codes "n") headers)).units in
      let found = one_below test (length figures) (chosen_record budgets headers records stage j below) in
      let tests = and_parts ((figure_at figures found.0 (column_named (codes "budget") headers)).units == j + 1) _ found.2 in
      let there = both_there budgets goods headers records fine sound fine_fields fine_sizes in
      let row : found.0 < rows_in records = omega (arith, found.1, rows_are (choices_form budgets) headers records) in
      let inside : found.0 < length sizes = omega (arith, row, sizes_are (choices_form budgets) headers records) in
      let number = written (codes "budget") Budget there.0 budget_says refl found.0 row in
      let times = written (codes "n") Times there.1 times_say refl found.0 row in
      let numbers = column_numbers (codes "budget") headers sizes in
      let counted : length numbers ≡ length sizes = length-listed _ (length sizes) in
      let column : found.0 < length numbers = omega (arith, inside, counted) in (
        found.0,
        omega (arith, column, length-map numbers (λ n. n - 1)),
        get_or-map (λ n. n - 1) numbers found.0 0 0 column
            ∙ ap (λ n. n - 1) (get-listed (λ t. slice_index (text_at sizes t) (column_named (codes "budget") headers)) (length sizes) found.0 0 inside ∙ number)
            ∙ number_is _ j tests.0,
        rw (get-listed (λ t. slice_index (text_at sizes t) (column_named (codes "n") headers)) (length sizes) found.0 0 inside ∙ times) (over_zero _ tests.1),
      )

-- the same of the choices of a sheet that no stage refuses
module _ {budgets : ℕ} {goods : List (List ℕ)} {records : List (List (List ℕ))} {columns : Layout} {figures : List (List Decimal)} {sizes : List (List ℕ)} (read : IsReadFrom (choices_form budgets) goods records columns figures sizes) where
  choices_on_budgets : 1 ≤ budgets → All (λ j. j < budgets) (choice_list columns.headers goods sizes).budget
  choices_on_budgets some =
      let stages = passed (choices_form budgets) goods records read.faultless in
      let fine = fine_headers (choices_form budgets) goods (headers_in (record_at records 0)) stages.1 stages.2 in
      of_read (λ h _ s. All (λ j. j < budgets) (choice_list h goods s).budget) read
      (on_budgets budgets goods (headers_in (record_at records 0)) records fine stages.2 stages.4 stages.5 (last_passed (choices_form budgets) goods records read.faultless) some)

  choices_from_every : (j : ℕ) → j < budgets → IsChosenFrom (choice_list columns.headers goods sizes) j
  choices_from_every =
      let stages = passed (choices_form budgets) goods records read.faultless in
      let fine = fine_headers (choices_form budgets) goods (headers_in (record_at records 0)) stages.1 stages.2 in
      of_read (λ h _ s. (j : ℕ) → j < budgets → IsChosenFrom (choice_list h goods s) j) read
      (every_budget budgets goods (headers_in (record_at records 0)) records fine stages.2 stages.4 stages.5 (last_passed (choices_form budgets) goods records read.faultless))

  -- what holds of every list of choices that is read
  pub choices_fit : 1 ≤ budgets → 1 ≤ length goods → length goods ≤ GOODS → budgets ≤ BUDGETS → (list : ChoiceList) → list ≡ choices_of budgets goods columns.headers figures
      → (list.goods ≡ length goods) × (1 ≤ length list.budget) × All (λ j. j < budgets) list.budget × ((j : ℕ) → j < budgets → IsChosenFrom list j)
  choices_fit some_budgets some few few_budgets list is =
      subst (λ (l : ChoiceList). (l.goods ≡ length goods) × (1 ≤ length l.budget) × All (λ j. j < budgets) l.budget × ((j : ℕ) → j < budgets → IsChosenFrom l j))
      (sym (is ∙ sym (choices_exact read some few few_budgets refl refl)))
      (refl, (choices_within read some few few_budgets).some_choices, choices_on_budgets some_budgets, choices_from_every)
