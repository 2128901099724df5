-- What the records of a file of menus without a fault say.
use Rattle.std.proofs.Common.{◌≡◌, ℕ, ◌<◌, ◌≤◌, ◌==◌, ◌&&◌, Bool, true, false, not, List, length, slice_index, Option, Some, None, refl, sym, ap, subst, ◌∙◌, arith, if◌then◌else◌}
use Rattle.std.specs.Prelude.{codes, unwrap_or}
use Rattle.std.specs.Option.{option_map}
use Rattle.std.specs.Result.{result_err}
use Rattle.rp_num.specs.Below.{first_of}
use Rattle.rp_num.proofs.BelowLemmas.{get-listed}
use Rattle.rp_sheet.specs.ChoiceCounts.{column_named}
use Rattle.rp_forms.specs.Columns.{named_role, role_at, role_of}
use Rattle.rp_sheet.specs.Fields.{field_at, figures_of, row_at, rows_in}
use Rattle.rp_forms.specs.Forms.{menus_form}
use Rattle.rp_sheet.specs.Headers.{has}
use Rattle.rp_sheet.specs.Sizes.{sizes_stage}
use Rattle.rp_forms.specs.Columns.{limit_of}
use Rattle.rp_forms.specs.Texts.{number_of, text_at}
use Rattle.rp_forms.specs.declared.form.Marks.TheVariants.{Goods}
use Rattle.rp_forms.specs.declared.form.Role.{Role}
use Rattle.rp_forms.specs.declared.form.Role.TheVariants.{Menu, Times}
use Rattle.rp_sheet.proofs.ColumnSizes.{sizes_are, sizes_in}
use Rattle.rp_sheet.proofs.FieldFaults.{role_is}
use Rattle.rp_sheet.proofs.FigureLemmas.{good_size, rows_are, size_listed}
use Rattle.rp_sheet.proofs.FineHeaders.{FineHeaders, column_there, required_there}
use Rattle.rp_sheet.proofs.PlaceLemmas.{none_below, none_or}
use Rattle.rp_menu.specs.Cells.{menu_row_at}
use Rattle.rp_menu.specs.Denotation.{choice_fault, column_fault, menu_rows_in, menu_rows_stage, menu_row_fault, menu_row_of, is_of_menus, menu_fault, text_under, times_in, told}
use Rattle.rp_menu.specs.InnerCells.{IsMenuRow}
use Rattle.rp_menu.specs.MenuTexts.{is_choice, is_menu}
use Rattle.rp_menu.specs.declared.fault.MenuFault.{MenuFault}
use Rattle.rp_menu.specs.declared.fault.MenuFault.TheVariants as fault
use Rattle.rp_menu.proofs.ChosenLetters.{menu_has, menu_small, menu_some}

menu_says : role_of Goods (codes "menu") ≡ Some Menu
unfolding role_of named_role
menu_says = refl

times_say : role_of Goods (codes "n") ≡ Some Times
unfolding role_of named_role
times_say = refl

whole_record : (b : Bool) (f : MenuFault) (rest : Option MenuFault) → (if not b then Some f else rest) ≡ None → rest ≡ None
whole_record true f rest e = e
whole_record false f rest e = cc e

is_menu_there : (a b : Bool) (f : MenuFault) → (if a && not b then Some f else None) ≡ None → a ≡ true → b ≡ true
is_menu_there true true f e is = refl
is_menu_there true false f e is = cc e
is_menu_there false b f e is = cc is

is_chosen : (b : Bool) (f : MenuFault) → (if b then None else Some f) ≡ None → b ≡ true
is_chosen true f e = refl
is_chosen false f e = cc e

-- what a record without a fault passed
pub passed_record : (headers : List (List ℕ)) (records : List (List (List ℕ))) (t : ℕ) → menu_row_fault headers records t ≡ None
    → (first_of (length headers) (column_fault menus_form headers records t) ≡ None) × (choice_fault headers records t ≡ None)
unfolding menu_row_fault
passed_record headers records t fine =
    none_or (first_of (length headers) (column_fault menus_form headers records t)) (choice_fault headers records t)
    (whole_record (length (row_at records t) == length headers) (fault.Ragged (number_of t)) _ fine)

pub passed_column : (headers : List (List ℕ)) (records : List (List (List ℕ))) (t c : ℕ) → column_fault menus_form headers records t c ≡ None
    → (option_map told (result_err (field_at menus_form headers records t c)) ≡ None) × (menu_fault menus_form headers records t c ≡ None)
unfolding column_fault
passed_column headers records t c fine = none_or (option_map told (result_err (field_at menus_form headers records t c))) (menu_fault menus_form headers records t c) fine

chosen_there : (headers : List (List ℕ)) (records : List (List (List ℕ))) (t : ℕ) → choice_fault headers records t ≡ None
    → is_choice (text_under (codes "menu") headers records t) (text_under (codes "choice") headers records t) ≡ true
unfolding choice_fault
chosen_there headers records t fine = is_chosen (is_choice (text_under (codes "menu") headers records t) (text_under (codes "choice") headers records t)) (fault.BadChoice (number_of t)) fine

pub passed_menu_row : (headers : List (List ℕ)) (records : List (List (List ℕ))) → menu_rows_stage headers records ≡ None → (t : ℕ) → t < rows_in records → menu_row_fault headers records t ≡ None
unfolding menu_rows_stage
passed_menu_row headers records fine t row = none_below (menu_row_fault headers records) (rows_in records) t fine row

module _ (headers : List (List ℕ)) (records : List (List (List ℕ))) (fine : FineHeaders menus_form headers)
    (fine_menu_rows : menu_rows_stage headers records ≡ None) (fine_sizes : sizes_stage menus_form headers (figures_of menus_form headers records) ≡ None) where
  -- the columns of menus and of counts are there
  pub menus_there : has headers (codes "menu") ≡ true
  menus_there = (required_there (has headers (codes "menu")) _ fine.columns).0

  times_there : has headers (codes "n") ≡ true
  times_there =
      let menu = required_there (has headers (codes "menu")) _ fine.columns in
      let choice = required_there (has headers (codes "choice")) _ menu.1 in
      (required_there (has headers (codes "n")) _ choice.1).0

  menu_is : (t : ℕ) → t < rows_in records → is_menu (text_under (codes "menu") headers records t) ≡ true
  menu_is t row =
      let column = column_there headers (codes "menu") menus_there in
      let at_column : column_named (codes "menu") headers ≡ column.0 = ap (λ o. unwrap_or o 0) column.2 in
      let role : role_at Goods headers column.0 ≡ Menu = role_is _ headers column.0 Menu (ap (role_of Goods) column.3 ∙ menu_says) in
      let passed = passed_record headers records t (passed_menu_row headers records fine_menu_rows t row) in
      let here = passed_column headers records t column.0 (none_below (column_fault menus_form headers records t) (length headers) column.0 passed.0 column.1) in
      ap (λ k. is_menu (text_at (row_at records t) k)) at_column
      ∙ is_menu_there (is_of_menus (role_at Goods headers column.0)) (is_menu (text_at (row_at records t) column.0)) (fault.BadMenu (number_of t)) here.1 (ap is_of_menus role)

  choice_is : (t : ℕ) → t < rows_in records → is_choice (text_under (codes "menu") headers records t) (text_under (codes "choice") headers records t) ≡ true
  choice_is t row = chosen_there headers records t (passed_record headers records t (passed_menu_row headers records fine_menu_rows t row)).1

  times_within : (t : ℕ) → t < rows_in records → slice_index (text_at (sizes_in menus_form headers records) t) (column_named (codes "n") headers) ≤ 9999999
  times_within t row =
      let column = column_there headers (codes "n") times_there in
      let at_column : column_named (codes "n") headers ≡ column.0 = ap (λ o. unwrap_or o 0) column.2 in
      let role : role_at Goods headers column.0 ≡ Times = role_is _ headers column.0 Times (ap (role_of Goods) column.3 ∙ times_say) in
      let inside : t < length (figures_of menus_form headers records) = omega (arith, rows_are menus_form headers records, row) in
      let figures = figures_of menus_form headers records in
      let most = (good_size menus_form headers figures t column.0 inside column.1 fine_sizes).1 in
      let sized : slice_index (text_at (sizes_in menus_form headers records) t) column.0 ≤ limit_of (role_at Goods headers column.0) = rw (size_listed menus_form headers figures t column.0 inside column.1) most in
      rw at_column (subst (λ (r : Role). slice_index (text_at (sizes_in menus_form headers records) t) column.0 ≤ limit_of r) role sized)

  pub sound_menu_row : (t : ℕ) → t < rows_in records → IsMenuRow (menu_row_of headers records (times_in headers records) t)
  sound_menu_row t row =
      let menu = text_under (codes "menu") headers records t in
      let is = menu_is t row in
      let sizes = sizes_in menus_form headers records in
      let inside : t < length sizes = omega (arith, sizes_are menus_form headers records, row) in
      let times : slice_index (times_in headers records) t ≡ slice_index (text_at sizes t) (column_named (codes "n") headers) =
      get-listed (λ k. slice_index (text_at sizes k) (column_named (codes "n") headers)) (length sizes) t 0 inside in
      record {
        few = rw times (times_within t row);
        some_letter = menu_some menu is;
        within_letters = menu_small menu is;
        from_menu = menu_has menu is (text_under (codes "choice") headers records t) (choice_is t row);
      }

  pub sound_menu_rows : (t : ℕ) → t < rows_in records → IsMenuRow (menu_row_at (menu_rows_in headers records) t)
  sound_menu_rows t row =
      subst IsMenuRow (sym (get-listed (menu_row_of headers records (times_in headers records)) (rows_in records) t _ row)) (sound_menu_row t row)
