-- Records without a fault come to menus within the limits.
use Rattle.std.proofs.Common.{◌≡◌, ℕ, zero, suc, ◌+◌, ◌*◌, ◌<◌, ◌≤◌, ◌==◌, Bool, true, false, All, List, length, get_or, sum_by, nat_lt, Some, None, refl, sym, ap, subst, ◌∙◌, add-one, arith, if◌then◌else◌}
use Rattle.std.proofs.lemmas.List.{get_or_default}
use Rattle.std.proofs.lemmas.Bool.Decides.{nat_tests}
use Rattle.rp_num.specs.Below.{any_below, first_of}
use Rattle.rp_forms.specs.Texts.{number_of}
use Rattle.rp_num.proofs.BelowLemmas.{first_at, one_holds}
use Rattle.rp_sheet.proofs.PlaceLemmas.{none_below}
use Rattle.rp_menu.specs.Cells.{cell_at, added_cell, cells_below, counted, menu_row_at, letters_of, menu_list, menus_below, offered, place_in}
use Rattle.rp_menu.specs.Denotation.{cells_stage, menus_stage}
use Rattle.rp_menu.specs.InnerCells.{IsMenuRow}
use Rattle.rp_menu.specs.MenuLists.{IsMenuList}
use Rattle.rp_menu.specs.declared.cells.Cell.{Cell}
use Rattle.rp_menu.specs.declared.menu_row.MenuRow.{MenuRow}
use Rattle.rp_menu.specs.declared.fault.MenuFault.{MenuFault}
use Rattle.rp_menu.specs.declared.fault.MenuFault.TheVariants as fault
use Rattle.rp_menu.proofs.CountedCells.{count_at_most, on, total_counted}
use Rattle.rp_menu.proofs.MenuLetters.{below_all, few_in_records}
use Rattle.rp_menu.proofs.OfferedMenus.{offered_at_most}
use Rattle.rp_menu.proofs.Tallies.{IsTally, menus_within, some_cells, tally_below}

holds : (b : Bool) (f : MenuFault) → (if b then None else Some f) ≡ None → b ≡ true
holds true f e = refl
holds false f e = cc e

fails : (b : Bool) (f : MenuFault) → (if b then Some f else None) ≡ None → b ≡ false
fails true f e = cc e
fails false f e = refl

pub some_chosen : (menu_rows : List MenuRow) → menus_stage menu_rows ≡ None → any_below (length menu_rows) (λ t. nat_lt 0 (menu_row_at menu_rows t).times) ≡ true
unfolding menus_stage
some_chosen menu_rows fine = holds (any_below (length menu_rows) (λ t. nat_lt 0 (menu_row_at menu_rows t).times)) fault.NoMenus fine

no_more : (n : ℕ) → nat_lt 64 n ≡ false → n ≤ 64
no_more n e = grind (arith, nat_tests)

-- there are no more cells than the limit
pub few_cells : (menu_rows : List MenuRow) (t : ℕ) → t < length menu_rows → cells_stage menu_rows ≡ None → length (cells_below menu_rows (t + 1)) ≤ 64
unfolding cells_stage
few_cells menu_rows t inside fine =
    no_more (length (cells_below menu_rows (t + 1)))
    (fails (nat_lt 64 (length (cells_below menu_rows (t + 1)))) (fault.TooManyCells (number_of t))
    (none_below (λ k. if nat_lt 64 (length (cells_below menu_rows (k + 1))) then Some (fault.TooManyCells (number_of k)) else None) (length menu_rows) t fine inside))

all_cells : (menu_rows : List MenuRow) (n : ℕ) → n ≡ length menu_rows → 1 ≤ length (cells_below menu_rows n) → cells_stage menu_rows ≡ None → length (cells_below menu_rows n) ≤ 64
all_cells menu_rows zero is some fine = absurd (omega (arith, some))
all_cells menu_rows (suc n) is some fine =
    let one : n + 1 ≡ suc n = omega arith in
    subst (λ k. length (cells_below menu_rows k) ≤ 64) one (few_cells menu_rows n (omega (arith, is)) fine)

pub counted_tally : (menu_rows : List MenuRow) → ((t : ℕ) → t < length menu_rows → IsMenuRow (menu_row_at menu_rows t)) → (t : ℕ) → t ≤ length menu_rows → IsTally (letters_of menu_rows) (menus_below menu_rows t) (cells_below menu_rows t) t
counted_tally menu_rows sound t within =
    tally_below (letters_of menu_rows) menu_rows t (λ k before.
    let inside : k < length menu_rows = omega (arith, before, within) in
    let is = sound k inside in
    (is.few, ((is.some_letter, below_all menu_rows k inside is.within_letters), is.from_menu)))

pub menus_are : (menu_rows : List MenuRow) → length menu_rows ≤ 4096 → ((t : ℕ) → t < length menu_rows → IsMenuRow (menu_row_at menu_rows t))
    → menus_stage menu_rows ≡ None → cells_stage menu_rows ≡ None → IsMenuList (menu_list menu_rows)
menus_are menu_rows few sound some fine =
    let cells = some_cells menu_rows (length menu_rows) (some_chosen menu_rows some) in
    menus_within (letters_of menu_rows) (menus_below menu_rows (length menu_rows)) (cells_below menu_rows (length menu_rows)) (length menu_rows)
    (counted_tally menu_rows sound (length menu_rows) (omega arith)) (few_in_records menu_rows) few cells (all_cells menu_rows (length menu_rows) refl cells fine)

pub one_chosen : (menu_rows : List MenuRow) (t : ℕ) → t < length menu_rows → 0 < (menu_row_at menu_rows t).times → menus_stage menu_rows ≡ None
unfolding menus_stage
one_chosen menu_rows t inside some =
    let test : nat_lt 0 (menu_row_at menu_rows t).times ≡ true = grind (arith, nat_tests) in
    ap (λ b. if b then None else Some fault.NoMenus) (one_holds (λ k. nat_lt 0 (menu_row_at menu_rows k).times) t (length menu_rows) inside test)

pub none_chosen : (menu_rows : List MenuRow) → any_below (length menu_rows) (λ t. nat_lt 0 (menu_row_at menu_rows t).times) ≡ false → menus_stage menu_rows ≡ Some fault.NoMenus
unfolding menus_stage
none_chosen menu_rows none = ap (λ b. if b then None else Some fault.NoMenus) none

-- ---- menus and cells so far

pub few_so_far : (menu_rows : List MenuRow) (t : ℕ) → length (menus_below menu_rows t) ≤ t
few_so_far menu_rows zero = omega arith
few_so_far menu_rows (suc t) = by (nat_lt 0 (menu_row_at menu_rows t).times) (few_so_far menu_rows t)
  where
    by : (b : Bool) → length (menus_below menu_rows t) ≤ t → length (if b then offered (menus_below menu_rows t) (menu_row_at menu_rows t).menu else menus_below menu_rows t) ≤ suc t
    by true low = omega (arith, low, offered_at_most (menus_below menu_rows t) (menu_row_at menu_rows t).menu)
    by false low = omega (arith, low)

at_most : (b : Bool) (x : ℕ) → (if b then x else 0) ≤ x
at_most true x = omega arith
at_most false x = omega arith

pub total_so_far : (menu_rows : List MenuRow) (j t : ℕ) → ((k : ℕ) → k < t → (menu_row_at menu_rows k).times ≤ 9999999) → sum_by (on j) (cells_below menu_rows t) ≤ t * 9999999
total_so_far menu_rows j zero few = omega arith
total_so_far menu_rows j (suc t) few = by (nat_lt 0 (menu_row_at menu_rows t).times) (total_so_far menu_rows j t (λ k l. few k (omega (arith, l))))
  where
    by : (b : Bool) → sum_by (on j) (cells_below menu_rows t) ≤ t * 9999999
        → sum_by (on j) (if b then counted (cells_below menu_rows t) (added_cell (menus_below menu_rows t) (menu_row_at menu_rows t)) else cells_below menu_rows t) ≤ suc t * 9999999
    by true low =
        let total = total_counted j (cells_below menu_rows t) (added_cell (menus_below menu_rows t) (menu_row_at menu_rows t)) in
        let here = at_most (place_in (menus_below menu_rows t) (menu_row_at menu_rows t).menu == j) (menu_row_at menu_rows t).times in
        omega (arith, low, total, here, few t (omega arith))
    by false low = omega (arith, low)

pub counts_so_far : (menu_rows : List MenuRow) (t : ℕ) → t ≤ 4096 → ((k : ℕ) → k < t → (menu_row_at menu_rows k).times ≤ 9999999)
    → All (λ (cell : Cell). cell.count ≤ 40959995904) (cells_below menu_rows t)
counts_so_far menu_rows t within few = λ k d inside.
    let cells = cells_below menu_rows t in
    let here : get_or cells k d ≡ cell_at cells k = get_or_default cells k d _ inside in
    let one = count_at_most cells k inside in
    let all = total_so_far menu_rows (cell_at cells k).group t few in
    subst (λ (cell : Cell). cell.count ≤ 40959995904) (sym here) (omega (arith, one, all, within))

pub too_many : (menu_rows : List MenuRow) (t : ℕ) (cells : List Cell) → t < length menu_rows
    → first_of t (λ k. if nat_lt 64 (length (cells_below menu_rows (k + 1))) then Some (fault.TooManyCells (number_of k)) else None) ≡ None
    → cells ≡ cells_below menu_rows (suc t) → 64 < length cells → cells_stage menu_rows ≡ Some (fault.TooManyCells (number_of t))
unfolding cells_stage
too_many menu_rows t cells inside before are many =
    let all : cells ≡ cells_below menu_rows (t + 1) = are ∙ ap (cells_below menu_rows) (sym (add-one t)) in
    let more : 64 < length (cells_below menu_rows (t + 1)) = subst (λ (xs : List Cell). 64 < length xs) all many in
    let test : nat_lt 64 (length (cells_below menu_rows (t + 1))) ≡ true = grind (arith, nat_tests) in
    first_at (λ k. if nat_lt 64 (length (cells_below menu_rows (k + 1))) then Some (fault.TooManyCells (number_of k)) else None) t (length menu_rows) (fault.TooManyCells (number_of t)) inside before
    (ap (λ b. if b then Some (fault.TooManyCells (number_of t)) else None) test)
