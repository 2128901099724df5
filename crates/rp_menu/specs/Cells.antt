-- What records of choices come to: menus, and the cells on them with their counts.
use Rattle.std.specs.Prelude.{ℕ, zero, suc, ◌+◌, ◌==◌, ◌&&◌, ◌++◌, nat_lt, List, [], ◌∷◌}
use Rattle.std.specs.Prelude.{length, map}
use Rattle.std.specs.Prelude.{slice_index_or, if◌then◌else◌}
use Rattle.rp_num.specs.Below.{greatest_below}
use Rattle.rp_menu.specs.MenuLists.{MenuList, has_letter}
use Rattle.rp_limits.specs.declared.menu.TheConstants.{LETTERS}
use Rattle.rp_menu.specs.declared.cells.Cell.{Cell}
use Rattle.rp_menu.specs.declared.menu_row.MenuRow.{MenuRow}

abbrev pub menu_row_at : List MenuRow → ℕ → MenuRow
menu_row_at menu_rows t = slice_index_or menu_rows t (record { menu = 0; letter = 0; times = 0 })

abbrev pub cell_at : List Cell → ℕ → Cell
cell_at cells k = slice_index_or cells k (record { group = 0; letter = 0; count = 0 })

-- where a menu stands among some: its place, or that of one more
abbrev pub place_in : List ℕ → ℕ → ℕ
place_in [] menu = 0
place_in (m ∷ menus) menu = if m == menu then 0 else suc (place_in menus menu)

-- the menus with one more, which comes last where it is not among them
abbrev pub offered : List ℕ → ℕ → List ℕ
offered menus menu = if place_in menus menu == length menus then menus ++ menu ∷ [] else menus

-- what one record adds to the cells on these menus
abbrev pub added_cell : List ℕ → MenuRow → Cell
added_cell menus menu_row = record {
  group = place_in menus menu_row.menu;
  letter = menu_row.letter;
  count = menu_row.times;
}

-- the cells with one more: its count joins that of the same menu and letter, or else it stands last on its menu
abbrev pub counted : List Cell → Cell → List Cell
counted [] new = new ∷ []
counted (cell ∷ cells) new =
    if nat_lt new.group cell.group then new ∷ cell ∷ cells
    else if (cell.group == new.group) && (cell.letter == new.letter)
    then record { group = cell.group; letter = cell.letter; count = cell.count + new.count } ∷ cells
    else cell ∷ counted cells new

-- the menus and the cells with one record more, which counts where it was chosen at all
abbrev pub menus_with : List ℕ → MenuRow → List ℕ
menus_with menus menu_row = if nat_lt 0 menu_row.times then offered menus menu_row.menu else menus

abbrev pub cells_with : List ℕ → List Cell → MenuRow → List Cell
cells_with menus cells menu_row = if nat_lt 0 menu_row.times then counted cells (added_cell menus menu_row) else cells

-- the menus and the cells of the first n records
abbrev pub menus_below : List MenuRow → ℕ → List ℕ
menus_below menu_rows zero = []
menus_below menu_rows (suc t) = menus_with (menus_below menu_rows t) (menu_row_at menu_rows t)

abbrev pub cells_below : List MenuRow → ℕ → List Cell
cells_below menu_rows zero = []
cells_below menu_rows (suc t) = cells_with (menus_below menu_rows t) (cells_below menu_rows t) (menu_row_at menu_rows t)

-- the number, from 1, of the greatest letter of a menu, and of those of all records
abbrev pub top_of : ℕ → ℕ
top_of menu = greatest_below LETTERS (λ x. if has_letter menu x then x + 1 else 0)

abbrev pub letters_of : List MenuRow → ℕ
letters_of menu_rows = greatest_below (length menu_rows) (λ t. top_of (menu_row_at menu_rows t).menu)

-- the menus of these records, with so many letters
abbrev pub listed_menus : ℕ → List ℕ → List Cell → MenuList
listed_menus letters menus cells = record {
  letters = letters;
  menus = menus;
  groups = map (λ (cell : Cell). cell.group) cells;
  chosen = map (λ (cell : Cell). cell.letter) cells;
  counts = map (λ (cell : Cell). cell.count) cells;
}

abbrev pub menu_list : List MenuRow → MenuList
menu_list menu_rows =
    listed_menus (letters_of menu_rows) (menus_below menu_rows (length menu_rows))
    (cells_below menu_rows (length menu_rows))
