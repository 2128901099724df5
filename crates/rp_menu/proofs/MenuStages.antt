-- The first fault of a file of menus, from the stages that were passed.
use Rattle.std.proofs.Common.{◌≡◌, ℕ, ◌<◌, ◌≤◌, ◌==◌, Bool, true, false, nat_lt, List, [], ◌∷◌, length, Option, Some, None, refl, subst, arith, if◌then◌else◌}
use Rattle.std.proofs.lemmas.Bool.Decides.{nat_tests}
use Rattle.rp_num.specs.declared.decimal.Decimal.{Decimal}
use Rattle.rp_sheet.specs.Fields.{count_stage, fault_in_records, figures_of, rows_in}
use Rattle.rp_forms.specs.Forms.{menus_form}
use Rattle.rp_sheet.specs.Headers.{goods_stage, headers_of, headers_stage}
use Rattle.rp_sheet.specs.Sizes.{sizes_stage}
use Rattle.rp_sheet.specs.declared.fault.TableFault.{TableFault}
use Rattle.rp_sheet.specs.declared.fault.TableFault.TheVariants as table_fault
use Rattle.rp_forms.specs.declared.form.Form.{Form}
use Rattle.rp_menu.specs.Denotation.{menu_faults, menu_row_fault, menu_rows_stage, fault_under, sheet_fault, told}
use Rattle.rp_menu.specs.declared.fault.MenuFault.{MenuFault}
use Rattle.rp_menu.specs.declared.fault.MenuFault.TheVariants as fault

pub empty_file : (records : List (List (List ℕ))) → length records ≡ 0 → sheet_fault records ≡ Some fault.Empty
unfolding sheet_fault
empty_file [] none = refl
empty_file (header ∷ rows) none = absurd (omega arith)

under_headers : (records : List (List (List ℕ))) → 0 < length records → sheet_fault records ≡ fault_under (headers_of records) records
unfolding sheet_fault
under_headers [] some = absurd (omega arith)
under_headers (header ∷ rows) some = refl

module _ (records : List (List (List ℕ))) (some : 0 < length records) where
  abbrev headers : List (List ℕ)
  headers = headers_of records

  pub in_headers : (e : TableFault) → headers_stage menus_form headers ≡ Some e → sheet_fault records ≡ Some (told e)
  unfolding fault_under
  in_headers e a = rw (under_headers records some, a) refl

  pub in_goods : (e : TableFault) → headers_stage menus_form headers ≡ None → goods_stage menus_form [] headers ≡ Some e → sheet_fault records ≡ Some (told e)
  unfolding fault_under
  in_goods e a b = rw (under_headers records some, a, b) refl

  pub in_count : (e : TableFault) → headers_stage menus_form headers ≡ None → goods_stage menus_form [] headers ≡ None → count_stage menus_form records ≡ Some e → sheet_fault records ≡ Some (told e)
  unfolding fault_under
  in_count e a b c = rw (under_headers records some, a, b, c) refl

  pub in_menu_rows : (e : MenuFault) → headers_stage menus_form headers ≡ None → goods_stage menus_form [] headers ≡ None → count_stage menus_form records ≡ None
      → menu_rows_stage headers records ≡ Some e → sheet_fault records ≡ Some e
  unfolding fault_under
  in_menu_rows e a b c d = rw (under_headers records some, a, b, c, d) refl

  pub in_sizes : (e : TableFault) → headers_stage menus_form headers ≡ None → goods_stage menus_form [] headers ≡ None → count_stage menus_form records ≡ None
      → menu_rows_stage headers records ≡ None → sizes_stage menus_form headers (figures_of menus_form headers records) ≡ Some e → sheet_fault records ≡ Some (told e)
  unfolding fault_under
  in_sizes e a b c d f = rw (under_headers records some, a, b, c, d, f) refl

  pub in_none : headers_stage menus_form headers ≡ None → goods_stage menus_form [] headers ≡ None → count_stage menus_form records ≡ None
      → menu_rows_stage headers records ≡ None → sizes_stage menus_form headers (figures_of menus_form headers records) ≡ None → sheet_fault records ≡ None
  unfolding fault_under
  in_none a b c d f = rw (under_headers records some, a, b, c, d, f) refl

-- ---- the same under other names of the form, the headers and the numbers

pub goods_as : (form : Form) (headers : List (List ℕ)) (records : List (List (List ℕ))) (o : Option TableFault) → form ≡ menus_form → headers ≡ headers_of records
    → goods_stage form [] headers ≡ o → goods_stage menus_form [] (headers_of records) ≡ o
goods_as form headers records o is headed told_is =
    subst (λ (f : Form). goods_stage f [] (headers_of records) ≡ o) is (subst (λ (h : List (List ℕ)). goods_stage form [] h ≡ o) headed told_is)

pub menu_rows_as : (form : Form) (headers : List (List ℕ)) (records : List (List (List ℕ))) (o : Option MenuFault) → form ≡ menus_form → headers ≡ headers_of records
    → fault_in_records menu_faults form headers records ≡ o → menu_rows_stage (headers_of records) records ≡ o
unfolding menu_rows_stage menu_row_fault
menu_rows_as form headers records o is headed told_is =
    subst (λ (f : Form). fault_in_records menu_faults f (headers_of records) records ≡ o) is (subst (λ (h : List (List ℕ)). fault_in_records menu_faults form h records ≡ o) headed told_is)

pub sizes_as : (form : Form) (headers : List (List ℕ)) (records : List (List (List ℕ))) (figures : List (List Decimal)) (o : Option TableFault) → form ≡ menus_form → headers ≡ headers_of records
    → figures ≡ figures_of form headers records → sizes_stage form headers figures ≡ o → sizes_stage menus_form (headers_of records) (figures_of menus_form (headers_of records) records) ≡ o
sizes_as form headers records figures o is headed read told_is =
    subst (λ (f : Form). sizes_stage f (headers_of records) (figures_of f (headers_of records) records) ≡ o) is
    (subst (λ (h : List (List ℕ)). sizes_stage form h (figures_of form h records) ≡ o) headed
    (subst (λ (fs : List (List Decimal)). sizes_stage form headers fs ≡ o) read told_is))

few_test : (n : ℕ) → nat_lt 4096 n ≡ false → n ≤ 4096
few_test n e = grind (arith, nat_tests)

pub few_rows : (records : List (List (List ℕ))) → count_stage menus_form records ≡ None → rows_in records ≤ 4096
unfolding count_stage
few_rows records fine = by (rows_in records == 0) (nat_lt 4096 (rows_in records)) refl fine
  where
    by : (a b : Bool) → nat_lt 4096 (rows_in records) ≡ b → (if a then Some table_fault.NoRecords else if b then Some table_fault.TooManyRecords else None) ≡ None → rows_in records ≤ 4096
    by true b is e = cc e
    by false true is e = cc e
    by false false is e = few_test (rows_in records) is
