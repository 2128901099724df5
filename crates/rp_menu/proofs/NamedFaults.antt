-- What a file of menus denotes is never want of memory: each stage has faults with names of their own alone.
use Rattle.std.proofs.Common.{◌≡◌, ◌≢◌, ℕ, zero, suc, ◌+◌, ◌-◌, ◌*◌, ◌^◌, ◌<◌, ◌==◌, Bool, true, false, not, nat_lt, List, [], ◌∷◌, filter, map, length, take, Option, Some, None, Result, Ok, Err, refl, ap, ◌∙◌, arith, if◌then◌else◌}
use Rattle.std.specs.Prelude.{codes, unwrap_or}
use Rattle.std.specs.Option.{option_map, option_map_or, option_or}
use Rattle.std.specs.Result.{result_err, result_unwrap_or}
use Rattle.std.proofs.lemmas.Bool.Decides.{nat_tests}
use Rattle.rp_num.specs.Below.{any_below, first_of}
use Rattle.rp_num.specs.Decimal.{decimal_of}
use Rattle.rp_num.specs.declared.decimal.Decimal.{Decimal}
use Rattle.rp_num.specs.declared.decimal.NumFault.{NumFault}
use Rattle.rp_forms.specs.Columns.{is_quantity, name_in, names_with, role_at, role_of, takes}
use Rattle.rp_sheet.specs.Fields.{count_stage, field_at, field_of, figures_of, nothing, row_at, rows_in, whole}
use Rattle.rp_forms.specs.Forms.{menus_form}
use Rattle.rp_sheet.specs.Headers.{goods_count_fault, goods_stage, has, header_fault, headers_in, headers_of, headers_stage, lacks_column, missing_fault, present_fault}
use Rattle.rp_sheet.specs.Sizes.{figure_at, places_of, size_at, size_of, sizes_stage}
use Rattle.rp_forms.specs.Columns.{limit_of}
use Rattle.rp_forms.specs.Texts.{number_of, text_at, trimmed}
use Rattle.rp_sheet.specs.declared.fault.TableFault.{TableFault}
use Rattle.rp_sheet.specs.declared.fault.TableFault.TheVariants as table_fault
use Rattle.rp_forms.specs.declared.form.Marks.TheVariants.{Goods}
use Rattle.rp_forms.specs.declared.form.Role.{Role}
use Rattle.rp_forms.specs.declared.form.Role.TheVariants.{Observation, Price, Quantity, Expenditure, Income, Budget, Times, Output, OutputPrice, Menu, Choice, OwnLevel}
use Rattle.rp_sheet.proofs.FigureLemmas.{figure_there, rows_are}
use Rattle.rp_sheet.proofs.PlaceLemmas.{none_below}
use Rattle.rp_menu.specs.Cells.{cells_below, menu_row_at, menu_list}
use Rattle.rp_menu.specs.Denotation.{cells_stage, choice_fault, column_fault, denoted_menus, menu_rows_in, menu_rows_stage, menu_row_fault, fault_under, first_fault, lacks_menu, menu_fault, menus_stage, sheet_fault, text_under, told, unless_fault}
use Rattle.rp_menu.specs.MenuTexts.{is_choice}
use Rattle.rp_menu.specs.declared.menu_row.MenuRow.{MenuRow}
use Rattle.rp_menu.specs.declared.fault.MenuFault.{MenuFault}
use Rattle.rp_menu.specs.declared.fault.MenuFault.TheVariants as fault

-- a stage does not say want of memory
abbrev IsNamed : Option MenuFault → Type 0
IsNamed o = o ≢ Some fault.NoMemory

either : (o p : Option MenuFault) → IsNamed o → (o ≡ None → IsNamed p) → IsNamed (option_or o p)
either None p first second = second refl
either (Some f) p first second = first

of_first : (n : ℕ) (f : ℕ → Option MenuFault) → ((k : ℕ) → k < n → IsNamed (f k)) → IsNamed (first_of n f)
of_first zero f each = λ same. cc same
of_first (suc n) f each = either (first_of n f) (f n) (of_first n f (λ k l. each k (omega (arith, l)))) (λ none. each n (omega arith))

of_first_told : (n : ℕ) (f : ℕ → Option TableFault) → ((k : ℕ) → k < n → IsNamed (option_map told (f k))) → IsNamed (option_map told (first_of n f))
of_first_told zero f each = λ same. cc same
of_first_told (suc n) f each = by (first_of n f) (of_first_told n f (λ k l. each k (omega (arith, l))))
  where
    by : (o : Option TableFault) → IsNamed (option_map told o) → IsNamed (option_map told (option_or o (f n)))
    by None before = each n (omega arith)
    by (Some x) before = before

-- ---- headers and columns

one_header : (headers : List (List ℕ)) (c : ℕ) → IsNamed (option_map told (header_fault menus_form headers c))
unfolding header_fault
one_header headers c = by (option_map_or (takes menus_form) (role_of Goods (text_at headers c)) false) (has (take c headers) (text_at headers c))
  where
    by : (a b : Bool) → IsNamed (option_map told (if not a then Some (table_fault.BadHeader (number_of c)) else if b then Some (table_fault.TwiceNamed (number_of c)) else None))
    by true true = λ same. cc same
    by true false = λ same. cc same
    by false b = λ same. cc same

header_taken : (headers : List (List ℕ)) (c : ℕ) → header_fault menus_form headers c ≡ None → option_map_or (takes menus_form) (role_of Goods (text_at headers c)) false ≡ true
unfolding header_fault
header_taken headers c fine = by (option_map_or (takes menus_form) (role_of Goods (text_at headers c)) false) (has (take c headers) (text_at headers c)) fine
  where
    by : (a b : Bool) → (if not a then Some (table_fault.BadHeader (number_of c)) else if b then Some (table_fault.TwiceNamed (number_of c)) else None) ≡ None → a ≡ true
    by true b e = refl
    by false b e = cc e

-- the columns of such a file: no prices, no quantities, nothing of budgets, outputs and levels
no_quantity : (o : Option Role) → option_map_or (takes menus_form) o false ≡ true → option_map_or is_quantity o false ≡ false
no_quantity None e = refl
no_quantity (Some Observation) e = refl
no_quantity (Some Price) e = refl
no_quantity (Some Quantity) e = cc e
no_quantity (Some Expenditure) e = refl
no_quantity (Some Income) e = refl
no_quantity (Some Budget) e = refl
no_quantity (Some Times) e = refl
no_quantity (Some Output) e = refl
no_quantity (Some OutputPrice) e = refl
no_quantity (Some Menu) e = refl
no_quantity (Some Choice) e = refl
no_quantity (Some OwnLevel) e = refl

role_taken : (o : Option Role) → option_map_or (takes menus_form) o false ≡ true → takes menus_form (unwrap_or o Observation) ≡ true
role_taken None e = cc e
role_taken (Some role) e = e

no_names : (headers : List (List ℕ)) → ((c : ℕ) → c < length headers → option_map_or (takes menus_form) (role_of Goods (text_at headers c)) false ≡ true) → names_with Goods is_quantity headers ≡ []
no_names [] taken = refl
no_names (header ∷ headers) taken = by (option_map_or is_quantity (role_of Goods header) false) (no_quantity (role_of Goods header) (taken 0 (omega arith))) (no_names headers (λ c l. taken (suc c) (omega (arith, l))))
  where
    by : (b : Bool) → b ≡ false → names_with Goods is_quantity headers ≡ []
        → map name_in (if b then header ∷ filter (λ h. option_map_or is_quantity (role_of Goods h) false) headers else filter (λ h. option_map_or is_quantity (role_of Goods h) false) headers) ≡ []
    by true e rest = cc e
    by false e rest = rest

goods_named : (headers : List (List ℕ)) → headers_stage menus_form headers ≡ None → IsNamed (option_map told (goods_stage menus_form [] headers))
unfolding headers_stage goods_stage present_fault missing_fault goods_count_fault
goods_named headers fine =
    let none = no_names headers (λ c inside. header_taken headers c (none_below (header_fault menus_form headers) (length headers) c fine inside)) in
    let few : nat_lt 16 (length (names_with Goods is_quantity headers)) ≡ false = ap (λ (names : List (List ℕ)). nat_lt 16 (length names)) none in
    by (lacks_column menus_form headers) (nat_lt 16 (length (names_with Goods is_quantity headers))) few
  where
    by : (a b : Bool) → b ≡ false → IsNamed (option_map told (option_or (if a then Some (table_fault.Unpaired 0) else None) (option_or (if b then Some table_fault.TooManyGoods else None) None)))
    by true b e = λ same. cc same
    by false true e = cc e
    by false false e = λ same. cc same

count_named : (records : List (List (List ℕ))) → IsNamed (option_map told (count_stage menus_form records))
unfolding count_stage
count_named records = by (rows_in records == 0) (nat_lt 4096 (rows_in records))
  where
    by : (a b : Bool) → IsNamed (option_map told (if a then Some table_fault.NoRecords else if b then Some table_fault.TooManyRecords else None))
    by true b = λ same. cc same
    by false true = λ same. cc same
    by false false = λ same. cc same

-- ---- records

whole_named : (number : Result Decimal NumFault) (row column : ℕ) → IsNamed (option_map told (result_err (whole number row column)))
whole_named (Err e) row column = λ same. cc same
whole_named (Ok d) row column = by (d.places == 0)
  where
    by : (b : Bool) → IsNamed (option_map told (result_err (if b then Ok d else Err (table_fault.BadNumber row column))))
    by true = λ same. cc same
    by false = λ same. cc same

whole_places : (number : Result Decimal NumFault) (row column : ℕ) → (result_unwrap_or (whole number row column) nothing).places ≡ 0
whole_places (Err e) row column = refl
whole_places (Ok d) row column = by (d.places == 0) refl
  where
    by : (b : Bool) → (d.places == 0) ≡ b → (result_unwrap_or (if b then Ok d else Err (table_fault.BadNumber row column)) nothing).places ≡ 0
    by true is = grind (arith, nat_tests)
    by false is = refl

field_named : (role : Role) (text : List ℕ) (row column : ℕ) → takes menus_form role ≡ true → IsNamed (option_map told (result_err (field_of 0 role text row column)))
unfolding field_of
field_named Observation text row column e = λ same. cc same
field_named Price text row column e = cc e
field_named Quantity text row column e = cc e
field_named Expenditure text row column e = cc e
field_named Income text row column e = cc e
field_named Budget text row column e = cc e
field_named Times text row column e = whole_named (decimal_of text) row column
field_named Output text row column e = cc e
field_named OutputPrice text row column e = cc e
field_named Menu text row column e = λ same. cc same
field_named Choice text row column e = λ same. cc same
field_named OwnLevel text row column e = cc e

field_places : (role : Role) (text : List ℕ) (row column : ℕ) → takes menus_form role ≡ true → (result_unwrap_or (field_of 0 role text row column) nothing).places ≡ 0
unfolding field_of
field_places Observation text row column e = refl
field_places Price text row column e = cc e
field_places Quantity text row column e = cc e
field_places Expenditure text row column e = cc e
field_places Income text row column e = cc e
field_places Budget text row column e = cc e
field_places Times text row column e = whole_places (decimal_of text) row column
field_places Output text row column e = cc e
field_places OutputPrice text row column e = cc e
field_places Menu text row column e = refl
field_places Choice text row column e = refl
field_places OwnLevel text row column e = cc e

choice_named : (headers : List (List ℕ)) (records : List (List (List ℕ))) (t : ℕ) → IsNamed (choice_fault headers records t)
unfolding choice_fault
choice_named headers records t = by (is_choice (text_under (codes "menu") headers records t) (text_under (codes "choice") headers records t))
  where
    by : (b : Bool) → IsNamed (if b then None else Some (fault.BadChoice (number_of t)))
    by true = λ same. cc same
    by false = λ same. cc same

size_named : (d : Decimal) (places limit row column : ℕ) → d.places ≡ 0 → IsNamed (option_map told (result_err (size_of d places limit row column)))
size_named d places limit row column whole =
    let fits : nat_lt places d.places ≡ false = grind (arith, nat_tests, whole) in
    by (nat_lt places d.places) (nat_lt limit (d.units * 10 ^ (places - d.places))) fits
  where
    by : (a b : Bool) → a ≡ false → IsNamed (option_map told (result_err (if a then Err (table_fault.TooFine row column) else if b then Err (table_fault.TooLarge row column) else Ok (d.units * 10 ^ (places - d.places)))))
    by true b e = cc e
    by false true e = λ same. cc same
    by false false e = λ same. cc same

module _ (headers : List (List ℕ)) (records : List (List (List ℕ))) (fine : headers_stage menus_form headers ≡ None) where
  taken_at : (c : ℕ) → c < length headers → takes menus_form (role_at Goods headers c) ≡ true
  unfolding headers_stage
  taken_at c inside = role_taken (role_of Goods (text_at headers c)) (header_taken headers c (none_below (header_fault menus_form headers) (length headers) c fine inside))

  column_named : (t c : ℕ) → c < length headers → IsNamed (column_fault menus_form headers records t c)
  unfolding column_fault field_at
  column_named t c inside =
      either (option_map told (result_err (field_at menus_form headers records t c))) (menu_fault menus_form headers records t c)
      (field_named (role_at Goods headers c) (trimmed (text_at (row_at records t) c)) (number_of t) (number_of c) (taken_at c inside))
      (λ _. by (lacks_menu (role_at Goods headers c) (text_at (row_at records t) c)))
    where
      by : (b : Bool) → IsNamed (if b then Some (fault.BadMenu (number_of t)) else None)
      by true = λ same. cc same
      by false = λ same. cc same

  menu_row_named : (t : ℕ) → IsNamed (menu_row_fault headers records t)
  unfolding menu_row_fault
  menu_row_named t = by (length (row_at records t) == length headers)
    where
      by : (b : Bool) → IsNamed (if not b then Some (fault.Ragged (number_of t)) else option_or (first_of (length headers) (column_fault menus_form headers records t)) (choice_fault headers records t))
      by true = either (first_of (length headers) (column_fault menus_form headers records t)) (choice_fault headers records t)
          (of_first (length headers) (column_fault menus_form headers records t) (column_named t)) (λ _. choice_named headers records t)
      by false = λ same. cc same

  menu_rows_named : IsNamed (menu_rows_stage headers records)
  unfolding menu_rows_stage
  menu_rows_named = of_first (rows_in records) (menu_row_fault headers records) (λ t _. menu_row_named t)

  sizes_named : IsNamed (option_map told (sizes_stage menus_form headers (figures_of menus_form headers records)))
  unfolding sizes_stage size_at field_at
  sizes_named =
      let figures = figures_of menus_form headers records in
      of_first_told (length figures) (λ t. first_of (length headers) (λ c. result_err (size_at menus_form headers figures t c)))
      (λ t inside. of_first_told (length headers) (λ c. result_err (size_at menus_form headers figures t c))
      (λ c column.
      let row : t < rows_in records = omega (arith, inside, rows_are menus_form headers records) in
      let whole = ap (λ (d : Decimal). d.places) (figure_there menus_form headers records t c row column)
      ∙ field_places (role_at Goods headers c) (trimmed (text_at (row_at records t) c)) (number_of t) (number_of c) (taken_at c column) in
      size_named (figure_at figures t c) (places_of menus_form headers figures (role_at Goods headers c)) (limit_of (role_at Goods headers c)) (number_of t) (number_of c) whole))

under_named : (headers : List (List ℕ)) (records : List (List (List ℕ))) → IsNamed (fault_under headers records)
unfolding fault_under headers_stage
under_named headers records =
    either (option_map told (headers_stage menus_form headers)) _ (of_first_told (length headers) (header_fault menus_form headers) (λ c _. one_header headers c)) (λ first.
    let fine = told_none (headers_stage menus_form headers) first in
    either (option_map told (goods_stage menus_form [] headers)) _ (goods_named headers fine) (λ _.
    either (option_map told (count_stage menus_form records)) _ (count_named records) (λ _.
    either (menu_rows_stage headers records) _ (menu_rows_named headers records fine) (λ _.
    either (option_map told (sizes_stage menus_form headers (figures_of menus_form headers records))) None (sizes_named headers records fine) (λ _. λ same. cc same)))))
  where
    told_none : (o : Option TableFault) → option_map told o ≡ None → o ≡ None
    told_none None e = refl
    told_none (Some x) e = cc e

sheet_named : (records : List (List (List ℕ))) → IsNamed (sheet_fault records)
unfolding sheet_fault
sheet_named [] = λ same. cc same
sheet_named (header ∷ rows) = under_named (headers_in header) (header ∷ rows)

menus_named : (menu_rows : List MenuRow) → IsNamed (menus_stage menu_rows)
unfolding menus_stage
menus_named menu_rows = by (any_below (length menu_rows) (λ t. nat_lt 0 (menu_row_at menu_rows t).times))
  where
    by : (b : Bool) → IsNamed (if b then None else Some fault.NoMenus)
    by true = λ same. cc same
    by false = λ same. cc same

cells_named : (menu_rows : List MenuRow) → IsNamed (cells_stage menu_rows)
unfolding cells_stage
cells_named menu_rows = of_first (length menu_rows) _ (λ t _. by t (nat_lt 64 (length (cells_below menu_rows (t + 1)))))
  where
    by : (t : ℕ) (b : Bool) → IsNamed (if b then Some (fault.TooManyCells (number_of t)) else None)
    by t true = λ same. cc same
    by t false = λ same. cc same

pub never_memory : (records : List (List (List ℕ))) → denoted_menus records ≢ Err fault.NoMemory
unfolding denoted_menus
never_memory records =
    let said = menu_rows_in (headers_of records) records in
    by (first_fault records)
    (either (sheet_fault records) _ (sheet_named records) (λ _. either (menus_stage said) _ (menus_named said) (λ _. either (cells_stage said) None (cells_named said) (λ _. λ same. cc same))))
    (menu_list said)
  where
    by : {A : Type 0} (o : Option MenuFault) → IsNamed o → (value : A) → unless_fault o value ≢ Err fault.NoMemory
    by None is value = λ same. cc same
    by (Some f) is value = λ same. is (cc same)
