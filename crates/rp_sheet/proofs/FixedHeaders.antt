-- The columns of goods that are given, in any kind of file that has them.
use Rattle.std.proofs.Common.{◌≡◌, ℕ, ◌*◌, ◌/◌, ◌<◌, ◌≤◌, Bool, true, false, not, ◌&&◌, ◌||◌, ◌==◌, if◌then◌else◌, List, ◌++◌, length, slice_index, Some, None, refl, sym, ap, ◌∙◌, subst, arith}
use Rattle.std.specs.Prelude.{unwrap_or}
use Rattle.std.specs.List.{All}
use Rattle.std.specs.Option.{option_map_or}
use Rattle.std.proofs.Math.Nat.{mul-div_cancel}
use Rattle.rp_table.specs.Limits.{IsPrice}
use Rattle.rp_table.specs.Rows.{rows_count}
use Rattle.rp_num.specs.Below.{any_below}
use Rattle.rp_forms.specs.Texts.{text_at, place_of}
use Rattle.rp_forms.specs.Columns.{role_of, named_role, good_role, takes, is_name, mark_of_prices, mark_of_quantities}
use Rattle.rp_sheet.specs.Headers.{has, good_mark, lacks_column, lacks_good, names_of, missing_fault, goods_stage}
use Rattle.rp_forms.specs.Columns.{has_goods}
use Rattle.rp_sheet.specs.Fields.{figures_of, rows_in, fields_stage}
use Rattle.rp_sheet.specs.Sizes.{sizes_stage}
use Rattle.rp_forms.specs.Columns.{limit_of}
use Rattle.rp_sheet.specs.Sheets.{column_of, numbers_under}
use Rattle.rp_forms.specs.declared.form.Form.{Form}
use Rattle.rp_forms.specs.declared.form.Marks.{Marks}
use Rattle.rp_forms.specs.declared.form.Marks.TheVariants.{Goods, Inputs}
use Rattle.rp_forms.specs.declared.form.Role.{Role}
use Rattle.rp_forms.specs.declared.form.Role.TheVariants.{Price, Quantity}
use Rattle.rp_sheet.specs.declared.fault.TableFault.{TableFault}
use Rattle.rp_num.proofs.BelowLemmas.{one_holds}
use Rattle.rp_sheet.proofs.PlaceLemmas.{not_false}
use Rattle.rp_sheet.proofs.FieldFaults.{role_is}
use Rattle.rp_num.proofs.RowsBelow.{length-rows, all_rows}
use Rattle.rp_sheet.proofs.FineHeaders.{FineHeaders, fine_goods, column_there}
use Rattle.rp_sheet.proofs.ColumnSizes.{sizes_in, sizes_are, within_limit, price_at}

missing_tests : (a b : Bool) (f g : TableFault) → (if a then Some f else if b then Some g else None) ≡ None → b ≡ false
missing_tests true b f g e = cc e
missing_tests false true f g e = cc e
missing_tests false false f g e = refl

given_test : (a b : Bool) → (a && b) ≡ false → a ≡ true → b ≡ false
given_test true b e h = e
given_test false b e h = cc h

-- where none holds, each does not
none_of : (f : ℕ → Bool) (n k : ℕ) → any_below n f ≡ false → k < n → f k ≡ false
none_of f n k none within = by (f k) refl
  where
    by : (b : Bool) → f k ≡ b → b ≡ false
    by true e = sym (one_holds f k n within e) ∙ none
    by false e = refl

-- no good is missing
none_missing : (form : Form) (goods headers : List (List ℕ)) → goods_stage form goods headers ≡ None → (form.fixed_goods && lacks_good form goods headers) ≡ false
unfolding missing_fault
none_missing form goods headers sound =
    missing_tests ((has_goods form && (length (names_of form headers) == 0)) || lacks_column form headers) (form.fixed_goods && lacks_good form goods headers) _ _ (fine_goods form goods headers sound).1

-- what the column of a good says
abbrev pub good_kind : Form → Role
good_kind form = if form.prices then Price else Quantity

named_or_none : (form : Form) (role : Role) (b : Bool) → option_map_or (takes form) (if not b then None else Some role) false ≡ true → (if not b then None else Some role) ≡ Some role
named_or_none form role true e = refl
named_or_none form role false e = cc e

price_role : (form : Form) (marks : Marks) (name : List ℕ) → option_map_or (takes form) (role_of marks (mark_of_prices marks ++ name)) false ≡ true → role_of marks (mark_of_prices marks ++ name) ≡ Some Price
unfolding role_of named_role good_role
price_role form Goods name e = named_or_none form Price (is_name name) e
price_role form Inputs name e = named_or_none form Price (is_name name) e

quantity_role : (form : Form) (marks : Marks) (name : List ℕ) → option_map_or (takes form) (role_of marks (mark_of_quantities marks ++ name)) false ≡ true → role_of marks (mark_of_quantities marks ++ name) ≡ Some Quantity
unfolding role_of named_role good_role
quantity_role form Goods name e = named_or_none form Quantity (is_name name) e
quantity_role form Inputs name e = named_or_none form Quantity (is_name name) e

-- a header with the mark of goods that says something is that of a good
marked_role : (form : Form) (name : List ℕ) → option_map_or (takes form) (role_of form.marks (good_mark form ++ name)) false ≡ true → role_of form.marks (good_mark form ++ name) ≡ Some (good_kind form)
marked_role form name e = by form.prices e
  where
    by : (b : Bool) → option_map_or (takes form) (role_of form.marks ((if b then mark_of_prices form.marks else mark_of_quantities form.marks) ++ name)) false ≡ true
        → role_of form.marks ((if b then mark_of_prices form.marks else mark_of_quantities form.marks) ++ name) ≡ Some (if b then Price else Quantity)
    by true h = price_role form form.marks name h
    by false h = quantity_role form form.marks name h

good_limit : (form : Form) → limit_of (good_kind form) ≡ 9999999
good_limit form = by form.prices
  where
    by : (b : Bool) → limit_of (if b then Price else Quantity) ≡ 9999999
    by true = refl
    by false = refl

-- the column of a given good
pub good_column : (form : Form) (goods headers : List (List ℕ)) → FineHeaders form headers → form.fixed_goods ≡ true → goods_stage form goods headers ≡ None → (g : ℕ) → g < length goods
    → (c : ℕ) × (c < length headers) × (place_of headers (good_mark form ++ text_at goods g) ≡ Some c) × (role_of form.marks (text_at headers c) ≡ Some (good_kind form))
good_column form goods headers fine given sound g within =
    let all = given_test form.fixed_goods (lacks_good form goods headers) (none_missing form goods headers sound) given in
    let there = not_false (has headers (good_mark form ++ text_at goods g)) (none_of (λ k. not (has headers (good_mark form ++ text_at goods k))) (length goods) g all within) in
    let column = column_there headers (good_mark form ++ text_at goods g) there in
    let says = marked_role form (text_at goods g) (subst (λ (h : List ℕ). option_map_or (takes form) (role_of form.marks h) false ≡ true) column.3 (fine.taken column.0 column.1)) in
    (column.0, column.1, column.2, ap (role_of form.marks) column.3 ∙ says)

module _ (form : Form) (goods headers : List (List ℕ)) (records : List (List (List ℕ))) (fine : FineHeaders form headers) (given : form.fixed_goods ≡ true) (sound : goods_stage form goods headers ≡ None)
    (fine_fields : fields_stage form headers records ≡ None) (fine_sizes : sizes_stage form headers (figures_of form headers records) ≡ None) where
  -- a scaled number of a good is within the limit
  pub number_within : (t g : ℕ) → t < rows_in records → g < length goods → slice_index (text_at (sizes_in form headers records) t) (column_of (good_mark form) headers goods g) ≤ 9999999
  number_within t g row place =
      let column = good_column form goods headers fine given sound g place in
      let at_column : column_of (good_mark form) headers goods g ≡ column.0 = ap (λ o. unwrap_or o 0) column.2 in
      let limit = ap limit_of (role_is _ headers column.0 (good_kind form) column.3) ∙ good_limit form in
      rw (at_column, ← limit) (within_limit form headers records fine_fields fine_sizes t column.0 row column.1)

  -- a scaled price is not 0
  pub price_within : form.prices ≡ true → (t g : ℕ) → t < rows_in records → g < length goods
      → (1 ≤ slice_index (text_at (sizes_in form headers records) t) (column_of (good_mark form) headers goods g))
      × (slice_index (text_at (sizes_in form headers records) t) (column_of (good_mark form) headers goods g) ≤ 9999999)
  price_within priced t g row place =
      let column = good_column form goods headers fine given sound g place in
      let at_column : column_of (good_mark form) headers goods g ≡ column.0 = ap (λ o. unwrap_or o 0) column.2 in
      let price : role_of form.marks (text_at headers column.0) ≡ Some Price = column.3 ∙ ap (λ (b : Bool). Some (if b then Price else Quantity)) priced in
      rw at_column (price_at form headers records fine_fields fine_sizes t column.0 row column.1 price)

  -- all of them
  pub numbers_within : All (λ q. q ≤ 9999999) (numbers_under (good_mark form) headers goods (sizes_in form headers records))
  numbers_within =
      all_rows (λ q. q ≤ 9999999) (length (sizes_in form headers records)) (length goods) _
      (λ t g row place. number_within t g (omega (arith, sizes_are form headers records)) place)

  pub prices_within : form.prices ≡ true → All IsPrice (numbers_under (good_mark form) headers goods (sizes_in form headers records))
  prices_within priced =
      all_rows IsPrice (length (sizes_in form headers records)) (length goods) _
      (λ t g row place. price_within priced t g (omega (arith, sizes_are form headers records)) place)

-- how many numbers of goods there are
pub numbers_of_goods : (mark : List ℕ) (headers goods sizes : List (List ℕ)) → length (numbers_under mark headers goods sizes) ≡ length sizes * length goods
numbers_of_goods mark headers goods sizes = length-rows (length sizes) (length goods) _

-- how many rows of them
pub rows_of_goods : (mark : List ℕ) (headers goods sizes : List (List ℕ)) → 1 ≤ length goods → rows_count (numbers_under mark headers goods sizes) (length goods) ≡ length sizes
rows_of_goods mark headers goods sizes some = ap (λ (k : ℕ). k / length goods) (numbers_of_goods mark headers goods sizes) ∙ mul-div_cancel (length sizes) some
