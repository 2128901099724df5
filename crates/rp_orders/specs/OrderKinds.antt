-- Strict orders that pick a cell from every menu, as kinds of persons who use one cell of every menu (Block and
-- Marschak 1960; McFadden and Richter 1990).
use Rattle.std.specs.Prelude.{◌<◌, ◌==◌, ◌&&◌, ℕ, zero, suc, Bool, nat_lt, List, length, slice_index}
use Rattle.std.specs.Prelude.{if◌then◌else◌}
use Rattle.rp_menu.specs.MenuLists.{MenuList}
use Rattle.rp_num.specs.Below.{listed}
use Rattle.rp_orders.specs.OrderMixtures.{menu_at}
use Rattle.rp_orders.specs.Orders.{IsStrictOrder, picked}
use Rattle.rp_patch.specs.Kinds.{Kinds}
use Rattle.rp_patch.specs.declared.apportionment.Units.{Units}

-- the first of the numbers below n at which a test holds, or n
abbrev pub first_with : ℕ → (ℕ → Bool) → ℕ
first_with zero test = 0
first_with (suc n) test =
    if nat_lt (first_with n test) n then first_with n test else (if test n then n else suc n)

-- The cell of letter x on menu i, or as many as there are cells where it is no cell.
abbrev pub cell_of : MenuList → ℕ → ℕ → ℕ
cell_of list i x =
    first_with (length list.groups) (λ c. (slice_index list.groups c == i) && (slice_index list.chosen c == x))

-- The cells that an order picks, menu by menu.
abbrev pub cells_picked : MenuList → List ℕ → List ℕ
cells_picked list order = listed (length list.menus) (λ i. cell_of list i (picked (menu_at list i) order))

-- A strict order that picks a cell from every menu.
pub record PicksCells (list : MenuList) (order : List ℕ) : Type 0 where
  pub strict : IsStrictOrder list.letters order
  pub cell : (i : ℕ) → i < length list.menus
      → cell_of list i (picked (menu_at list i) order) < length list.groups

-- The orders that pick a cell from every menu, as kinds.
abbrev pub orders_over : MenuList → Units → Kinds
orders_over list units = record {
  groups = length list.menus;
  cells = length list.groups;
  group = slice_index list.groups;
  units = slice_index units.units;
  total = units.total;
  IsFormed = IsStrictOrder list.letters;
  IsKind = PicksCells list;
  used = cells_picked list;
}
