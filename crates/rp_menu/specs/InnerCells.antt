-- Words that only proofs need: where a cell is counted, and what the records of a file without a fault keep to.
use Rattle.std.specs.Prelude.{◌≡◌, ◌<◌, ◌≤◌, ◌^◌, ◌==◌, ◌&&◌, ◌||◌, Bool, true, nat_lt}
use Rattle.rp_limits.specs.declared.table.TheConstants.{LARGEST}
use Rattle.rp_menu.specs.MenuLists.{has_letter}
use Rattle.rp_limits.specs.declared.menu.TheConstants.{LETTERS}
use Rattle.rp_menu.specs.declared.cells.Cell.{Cell}
use Rattle.rp_menu.specs.declared.menu_row.MenuRow.{MenuRow}

-- whether a cell has the menu and the letter of another, or a later menu
abbrev pub is_seat : Cell → Cell → Bool
is_seat cell new = nat_lt new.group cell.group || ((cell.group == new.group) && (cell.letter == new.letter))

-- a menu of the letters that there are, one of its letters, and a count within the limit
pub record IsMenuRow (menu_row : MenuRow) : Type 0 where
  pub few : menu_row.times ≤ LARGEST
  pub some_letter : 1 ≤ menu_row.menu
  pub within_letters : menu_row.menu < 2 ^ LETTERS
  pub from_menu : has_letter menu_row.menu menu_row.letter ≡ true
