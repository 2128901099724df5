-- Menus with the cells on them, as lists: a cell is a menu with a letter that was chosen from it (stochastic choice
-- after Block and Marschak 1960).
use Rattle.std.specs.Prelude.{◌≡◌, ◌≢◌, ℕ, ◌<◌, ◌≤◌, ◌^◌, ◌==◌, Bool, true}
use Rattle.std.specs.Prelude.{List, length, slice_index}
use Rattle.std.specs.Int.{bit_at}
use Rattle.rp_patch.specs.Apportionment.{AreGrouped, groups_in}
use Rattle.rp_limits.specs.declared.menu.TheConstants.{CELLS, LETTERS}

-- whether the menu with that number has letter x, from 0: numbers are sums of 1, 2, 4 and so on, for a, b, c and so on
abbrev pub has_letter : ℕ → ℕ → Bool
has_letter menu x = bit_at menu x == 1

-- How many letters there are; the menus, each as its number; and of each cell the place of its menu, its letter from 0
-- and its count.
pub record MenuList : Type 0 where
  pub letters : ℕ
  pub menus : List ℕ
  pub groups : List ℕ
  pub chosen : List ℕ
  pub counts : List ℕ

-- Menus within the limits: each has one letter or more of those that there are, and no two are the same; the cells are
-- few and stand by menu, with a cell on every menu; each has a letter of its menu and was chosen, and no two cells of a menu
-- have the same letter; what was chosen from a menu can be shared out in units.
pub record IsMenuList (list : MenuList) : Type 0 where
  pub some_letters : 1 ≤ list.letters
  pub few_letters : list.letters ≤ LETTERS
  pub some_in_each : (i : ℕ) → i < length list.menus → 1 ≤ slice_index list.menus i
  pub within_letters : (i : ℕ) → i < length list.menus → slice_index list.menus i < 2 ^ list.letters
  pub apart : (h i : ℕ) → h < i → i < length list.menus → slice_index list.menus h ≢ slice_index list.menus i
  pub few_cells : length list.groups ≤ CELLS
  pub grouped : AreGrouped list.groups list.counts
  pub on_every : groups_in list.groups ≡ length list.menus
  pub all_chosen : length list.chosen ≡ length list.groups
  pub from_menus : (k : ℕ) → k < length list.groups
      → has_letter (slice_index list.menus (slice_index list.groups k)) (slice_index list.chosen k) ≡ true
  pub once_each : (h k : ℕ) → h < k → k < length list.groups
      → slice_index list.groups h ≡ slice_index list.groups k
      → slice_index list.chosen h ≢ slice_index list.chosen k
  pub counted : (k : ℕ) → k < length list.groups → 1 ≤ slice_index list.counts k
