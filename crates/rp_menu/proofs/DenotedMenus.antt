-- What a file denotes as menus, by its first fault and by its first records.
use Rattle.std.proofs.Common.{◌≡◌, ℕ, ◌<◌, List, [], ◌∷◌, length, take, inl, inr, Option, Some, None, Ok, Err, refl, ap, arith}
use Rattle.std.specs.Option.{option_map}
use Rattle.std.proofs.lemmas.Bool.{cases_lt}
use Rattle.std.proofs.lemmas.List.{length-take-le, take_all}
use Rattle.rp_num.specs.Below.{first_there}
use Rattle.rp_sheet.specs.Fields.{count_stage, figures_of}
use Rattle.rp_forms.specs.Forms.{menus_form}
use Rattle.rp_sheet.specs.Headers.{goods_stage, headers_in, headers_of, headers_stage}
use Rattle.rp_sheet.specs.Sizes.{sizes_stage}
use Rattle.rp_sheet.specs.declared.fault.TableFault.TheVariants as table_fault
use Rattle.rp_sheet.proofs.StageLemmas.{many_records}
use Rattle.rp_menu.specs.Cells.{letters_of, listed_menus, menu_list, menus_below, cells_below}
use Rattle.rp_menu.specs.Denotation.{cells_stage, denoted_menus, menu_rows_in, menu_rows_stage, fault_under, menus_stage, sheet_fault, told, unless_fault}
use Rattle.rp_menu.specs.declared.cells.Cell.{Cell}
use Rattle.rp_menu.specs.declared.menu_row.MenuRow.{MenuRow}
use Rattle.rp_menu.specs.declared.fault.MenuFault.{MenuFault}
use Rattle.rp_menu.specs.declared.fault.MenuFault.TheVariants as fault

module _ (records : List (List (List ℕ))) where
  abbrev pub said : List MenuRow
  said = menu_rows_in (headers_of records) records

  pub in_sheet : (e : MenuFault) → sheet_fault records ≡ Some e → denoted_menus records ≡ Err e
  unfolding denoted_menus
  in_sheet e a = rw a refl

  pub in_times : (e : MenuFault) → sheet_fault records ≡ None → menus_stage said ≡ Some e → denoted_menus records ≡ Err e
  unfolding denoted_menus
  in_times e a b = rw (a, b) refl

  pub in_cells : (e : MenuFault) → sheet_fault records ≡ None → menus_stage said ≡ None → cells_stage said ≡ Some e → denoted_menus records ≡ Err e
  unfolding denoted_menus
  in_cells e a b d = rw (a, b, d) refl

  pub menus_there : sheet_fault records ≡ None → menus_stage said ≡ None → cells_stage said ≡ None → denoted_menus records ≡ Ok (menu_list said)
  unfolding denoted_menus
  menus_there a b d = rw (a, b, d) refl

-- the menus of counted records
pub listed_as : (menu_rows : List MenuRow) (letters : ℕ) (menus : List ℕ) (cells : List Cell) → letters ≡ letters_of menu_rows → menus ≡ menus_below menu_rows (length menu_rows)
    → cells ≡ cells_below menu_rows (length menu_rows) → listed_menus letters menus cells ≡ menu_list menu_rows
listed_as menu_rows letters menus cells a b d = rw (a, b, d) refl

-- what is refused for its headers or for the number of its records is refused whatever the records are
refused_early : {A : Type 0} (h g n a b x y a' b' x' y' : Option MenuFault) (e : MenuFault) (v w : A) → n ≡ Some e
    → unless_fault (first_there (first_there (h ∷ g ∷ n ∷ a ∷ b ∷ []) ∷ x ∷ y ∷ [])) v ≡ unless_fault (first_there (first_there (h ∷ g ∷ n ∷ a' ∷ b' ∷ []) ∷ x' ∷ y' ∷ [])) w
refused_early (Some f) g n a b x y a' b' x' y' e v w is = refl
refused_early None (Some f) n a b x y a' b' x' y' e v w is = refl
refused_early None None n a b x y a' b' x' y' e v w is = rw is refl

too_long : (records : List (List (List ℕ))) → 4098 < length records → denoted_menus (take 4098 records) ≡ denoted_menus records
unfolding denoted_menus sheet_fault fault_under
too_long [] many = absurd (omega arith)
too_long (header ∷ rows) many =
    let taken : length (take 4097 rows) ≡ 4097 = length-take-le 4097 rows (omega arith) in
    let first : count_stage menus_form (header ∷ take 4097 rows) ≡ Some table_fault.TooManyRecords = many_records menus_form (header ∷ take 4097 rows) (omega (arith, taken)) in
    let all : count_stage menus_form (header ∷ rows) ≡ Some table_fault.TooManyRecords = many_records menus_form (header ∷ rows) (omega arith) in
    let headers = headers_in header in
    rw (first, all) (refused_early (option_map told (headers_stage menus_form headers)) (option_map told (goods_stage menus_form [] headers)) (Some fault.TooManyRecords)
    (menu_rows_stage headers (header ∷ take 4097 rows)) (option_map told (sizes_stage menus_form headers (figures_of menus_form headers (header ∷ take 4097 rows))))
    (menus_stage (menu_rows_in headers (header ∷ take 4097 rows))) (cells_stage (menu_rows_in headers (header ∷ take 4097 rows)))
    (menu_rows_stage headers (header ∷ rows)) (option_map told (sizes_stage menus_form headers (figures_of menus_form headers (header ∷ rows))))
    (menus_stage (menu_rows_in headers (header ∷ rows))) (cells_stage (menu_rows_in headers (header ∷ rows)))
    fault.TooManyRecords (menu_list (menu_rows_in headers (header ∷ take 4097 rows))) (menu_list (menu_rows_in headers (header ∷ rows))) refl)

-- a file denotes what its first records denote, as many as the limit, the headers and one more
pub first_records : (records : List (List (List ℕ))) → denoted_menus (take 4098 records) ≡ denoted_menus records
first_records records = elim (cases_lt 4098 (length records)) [
  | inl many ↦ too_long records many
  | inr few ↦ ap denoted_menus (take_all 4098 records few)
]
