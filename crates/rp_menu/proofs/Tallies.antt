-- Records without a fault come to menus within the limits.
use Rattle.std.proofs.Common.{◌≡◌, ◌≢◌, ℕ, zero, suc, ◌*◌, ◌^◌, ◌<◌, ◌≤◌, ◌==◌, ◌||◌, Bool, true, false, List, [], inl, inr, length, slice_index, sum_by, nat_lt, refl, sym, ap, ◌∙◌, arith, if◌then◌else◌}
use Rattle.std.proofs.lemmas.Bool.Decides.{nat_tests}
use Rattle.rp_num.specs.Below.{any_below}
use Rattle.rp_menu.specs.Cells.{cell_at, added_cell, cells_below, counted, menu_row_at, listed_menus, menus_below, offered, place_in}
use Rattle.rp_menu.specs.MenuLists.{IsMenuList, has_letter}
use Rattle.rp_menu.specs.declared.cells.Cell.{Cell}
use Rattle.rp_menu.specs.declared.menu_row.MenuRow.{MenuRow}
use Rattle.rp_menu.proofs.OfferedMenus.{each_menu, menu_either, menu_kept, menu_there, menus_apart}
use Rattle.rp_menu.proofs.CountedCells.{AreChosen, Each, InOrder, chosen_at, chosen_counted, each_as, each_at, each_counted, in_order_counted, on, order_at, some_counted, total_counted}
use Rattle.rp_menu.proofs.GroupedCells.{all_groups, all_letters, are_grouped, count_at, group_at, groups_are, letter_at, letters}

-- a place of these menus, and a letter of the menu there
abbrev pub IsOn : List ℕ → ℕ → ℕ → Type 0
IsOn menus g x = (g < length menus) × (has_letter (slice_index menus g) x ≡ true)

abbrev pub IsMenu : ℕ → ℕ → Type 0
IsMenu n menu = (1 ≤ menu) × (menu < 2 ^ n)

-- the menus and the cells of so many records, with letters below n
pub record IsTally (n : ℕ) (menus : List ℕ) (cells : List Cell) (records : ℕ) : Type 0 where
  pub on_menus : Each (IsOn menus) cells
  pub in_order : InOrder cells
  pub chosen : AreChosen cells
  pub are_menus : (i : ℕ) → i < length menus → IsMenu n (slice_index menus i)
  pub apart : (h i : ℕ) → h < i → i < length menus → slice_index menus h ≢ slice_index menus i
  pub some_on : (j : ℕ) → j < length menus → 1 ≤ sum_by (on j) cells
  pub few_on : (j : ℕ) → sum_by (on j) cells ≤ records * 9999999

on_as : (menus : List ℕ) (menu g x : ℕ) → IsOn menus g x → IsOn (offered menus menu) g x
on_as menus menu g x is =
    let kept = menu_kept menus menu g is.0 in
    (kept.0, ap (λ m. has_letter m x) kept.1 ∙ is.1)

own : (g x : ℕ) → (if g == g then x else 0) ≡ x
own g x =
    let test : (g == g) ≡ true = grind (arith, nat_tests) in
    ap (λ b. if b then x else 0) test

at_most : (b : Bool) (x : ℕ) → (if b then x else 0) ≤ x
at_most true x = omega arith
at_most false x = omega arith

pub none_yet : (n : ℕ) → IsTally n [] [] 0
none_yet n = record {
  on_menus = tt;
  in_order = tt;
  chosen = tt;
  are_menus = λ i inside. absurd (omega (arith, inside));
  apart = λ h i before inside. absurd (omega (arith, inside));
  some_on = λ j inside. absurd (omega (arith, inside));
  few_on = λ j. omega arith;
}

module _ (n : ℕ) (menus : List ℕ) (cells : List Cell) (records : ℕ) (is : IsTally n menus cells records) where
  pub passed_over : IsTally n menus cells (suc records)
  passed_over = record {
    on_menus = is.on_menus;
    in_order = is.in_order;
    chosen = is.chosen;
    are_menus = is.are_menus;
    apart = is.apart;
    some_on = is.some_on;
    few_on = λ j. omega (arith, is.few_on j);
  }

  pub one_counted : (menu_row : MenuRow) → 1 ≤ menu_row.times → menu_row.times ≤ 9999999 → IsMenu n menu_row.menu → has_letter menu_row.menu menu_row.letter ≡ true
      → IsTally n (offered menus menu_row.menu) (counted cells (added_cell menus menu_row)) (suc records)
  one_counted menu_row some few menu letter =
      let new = added_cell menus menu_row in
      let there = menu_there menus menu_row.menu in
      record {
        on_menus = each_counted (IsOn (offered menus menu_row.menu)) cells new (each_as (IsOn menus) (IsOn (offered menus menu_row.menu)) (on_as menus menu_row.menu) cells is.on_menus)
            (there.0, ap (λ m. has_letter m menu_row.letter) there.1 ∙ letter);
        in_order = in_order_counted cells new is.in_order;
        chosen = chosen_counted cells new is.chosen some;
        are_menus = each_menu menus menu_row.menu (IsMenu n) is.are_menus menu;
        apart = menus_apart menus menu_row.menu is.apart;
        some_on = λ j inside.
            let total = total_counted j cells new in
            elim (menu_either menus menu_row.menu j inside) [
              | inl old ↦ omega (arith, total, is.some_on j old)
              | inr last ↦
                  let here : on j new ≡ menu_row.times = ap (λ g. if g == j then menu_row.times else 0) (sym last.1) ∙ own j menu_row.times in
                  omega (arith, total, here, some)
            ];
        few_on = λ j.
            let total = total_counted j cells new in
            let here = at_most (place_in menus menu_row.menu == j) menu_row.times in
            omega (arith, total, is.few_on j, here, few);
      }

-- what the records of a file without a fault keep to
abbrev pub IsSound : ℕ → MenuRow → Type 0
IsSound n menu_row = (menu_row.times ≤ 9999999) × (IsMenu n menu_row.menu × (has_letter menu_row.menu menu_row.letter ≡ true))

pub tally_below : (n : ℕ) (menu_rows : List MenuRow) (t : ℕ) → ((k : ℕ) → k < t → IsSound n (menu_row_at menu_rows k)) → IsTally n (menus_below menu_rows t) (cells_below menu_rows t) t
tally_below n menu_rows zero sound = none_yet n
tally_below n menu_rows (suc t) sound = by (nat_lt 0 (menu_row_at menu_rows t).times) refl (tally_below n menu_rows t (λ k l. sound k (omega (arith, l))))
  where
    by : (b : Bool) → nat_lt 0 (menu_row_at menu_rows t).times ≡ b → IsTally n (menus_below menu_rows t) (cells_below menu_rows t) t
        → IsTally n (if b then offered (menus_below menu_rows t) (menu_row_at menu_rows t).menu else menus_below menu_rows t)
        (if b then counted (cells_below menu_rows t) (added_cell (menus_below menu_rows t) (menu_row_at menu_rows t)) else cells_below menu_rows t) (suc t)
    by true some so_far =
        let here = sound t (omega arith) in
        one_counted n (menus_below menu_rows t) (cells_below menu_rows t) t so_far (menu_row_at menu_rows t) (grind (arith, nat_tests)) here.0 here.1.0 here.1.1
    by false none so_far = passed_over n (menus_below menu_rows t) (cells_below menu_rows t) t so_far

-- a positive count makes a cell
pub some_cells : (menu_rows : List MenuRow) (t : ℕ) → any_below t (λ k. nat_lt 0 (menu_row_at menu_rows k).times) ≡ true → 1 ≤ length (cells_below menu_rows t)
some_cells menu_rows zero some = cc some
some_cells menu_rows (suc t) some = by (nat_lt 0 (menu_row_at menu_rows t).times) refl (any_below t (λ k. nat_lt 0 (menu_row_at menu_rows k).times)) refl (some_cells menu_rows t)
  where
    by : (b : Bool) → nat_lt 0 (menu_row_at menu_rows t).times ≡ b → (a : Bool) → any_below t (λ k. nat_lt 0 (menu_row_at menu_rows k).times) ≡ a
        → (any_below t (λ k. nat_lt 0 (menu_row_at menu_rows k).times) ≡ true → 1 ≤ length (cells_below menu_rows t))
        → 1 ≤ length (if b then counted (cells_below menu_rows t) (added_cell (menus_below menu_rows t) (menu_row_at menu_rows t)) else cells_below menu_rows t)
    by true is a before rest = some_counted (cells_below menu_rows t) (added_cell (menus_below menu_rows t) (menu_row_at menu_rows t))
    by false is true before rest = rest before
    by false is false before rest =
        let none : (any_below t (λ k. nat_lt 0 (menu_row_at menu_rows k).times) || nat_lt 0 (menu_row_at menu_rows t).times) ≡ false = rw (before, is) refl in
        cc (none, some)

some_power : (k menu : ℕ) → IsMenu k menu → 1 ≤ k
some_power zero menu in_it = absurd (omega (arith, in_it.0, in_it.1))
some_power (suc k) menu in_it = omega arith

-- menus within the limits
module _ (n : ℕ) (menus : List ℕ) (cells : List Cell) (records : ℕ) (is : IsTally n menus cells records) where
  group_below : Each (λ g x. g < length menus) cells
  group_below = each_as (IsOn menus) (λ g x. g < length menus) (λ g x on_it. on_it.0) cells is.on_menus

  pub menus_within : n ≤ 6 → records ≤ 4096 → 1 ≤ length cells → length cells ≤ 64 → IsMenuList (listed_menus n menus cells)
  menus_within few_letters few some most =
      let all = groups_are cells (length menus) is.in_order group_below is.some_on some in
      let first = each_at (IsOn menus) cells 0 is.on_menus (omega (arith, some)) in
      let menu = is.are_menus (cell_at cells 0).group first.0 in
      record {
        some_letters = some_power n (slice_index menus (cell_at cells 0).group) menu;
        few_letters = few_letters;
        some_in_each = λ i inside. (is.are_menus i inside).0;
        within_letters = λ i inside. (is.are_menus i inside).1;
        apart = is.apart;
        few_cells = omega (arith, most, all_groups cells);
        grouped = are_grouped cells (length menus) is.in_order group_below is.some_on some most (λ j inside. omega (arith, is.few_on j, few));
        on_every = all;
        all_chosen = all_letters cells ∙ sym (all_groups cells);
        from_menus = λ k inside.
            let within : k < length cells = omega (arith, inside, all_groups cells) in
            let here = each_at (IsOn menus) cells k is.on_menus within in
            ap (λ g. has_letter (slice_index menus g) (slice_index (letters cells) k)) (group_at cells k within)
            ∙ ap (has_letter (slice_index menus (cell_at cells k).group)) (letter_at cells k within) ∙ here.1;
        once_each = λ h k before inside same.
            let within : k < length cells = omega (arith, inside, all_groups cells) in
            let early : h < length cells = omega (arith, within, before) in
            let menus_same : (cell_at cells h).group ≡ (cell_at cells k).group = sym (group_at cells h early) ∙ same ∙ group_at cells k within in
            λ letters_same. elim (order_at cells h k is.in_order before within) [
              | inl earlier ↦ omega (arith, earlier, menus_same)
              | inr other ↦ other.1 (sym (letter_at cells h early) ∙ letters_same ∙ letter_at cells k within)
            ];
        counted = λ k inside.
            let within : k < length cells = omega (arith, inside, all_groups cells) in
            rw (count_at cells k within) (chosen_at cells k is.chosen within);
      }
