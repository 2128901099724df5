-- Strict orders of letters, and what they pick from menus (Block and Marschak 1960).
use Rattle.std.specs.Prelude.{◌≡◌, ◌≢◌, ◌<◌, ℕ, List, [], ◌∷◌, length, slice_index, if◌then◌else◌}
use Rattle.rp_menu.specs.MenuLists.{has_letter}
use Rattle.rp_limits.specs.declared.menu.TheConstants.{LETTERS}

-- A strict order of so many letters, from the best on: each of the numbers below that, once.
pub record IsStrictOrder (letters : ℕ) (order : List ℕ) : Type 0 where
  pub of_all : length order ≡ letters
  pub letter : (j : ℕ) → j < letters → slice_index order j < letters
  pub once : (h j : ℕ) → h < j → j < letters → slice_index order h ≢ slice_index order j

-- The letter that an order picks from a menu: the first of the order that the menu has. A menu of other letters alone
-- gives none of the letters that there are.
abbrev pub picked : ℕ → List ℕ → ℕ
picked menu [] = LETTERS
picked menu (x ∷ order) = if has_letter menu x then x else picked menu order
