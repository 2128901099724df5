-- Mixtures of strict orders, and the greatest share of choices from menus that they explain (Block and Marschak 1960;
-- Falmagne 1978). They range over all strict orders of the letters.
use Rattle.std.specs.Prelude.{◌≡◌, ◌<◌, ◌≤◌, ◌*◌, ◌==◌, ◌&&◌, ℕ, true, List, Contains, length, sum_by, slice_index}
use Rattle.std.specs.Prelude.{if◌then◌else◌}
use Rattle.rp_evidence.specs.declared.random.Share.{Share}
use Rattle.rp_menu.specs.MenuLists.{MenuList, has_letter}
use Rattle.rp_orders.specs.Orders.{IsStrictOrder, picked}
use Rattle.rp_patch.specs.Apportionment.{AreFilled, grouped}
use Rattle.rp_patch.specs.Kinds.{weight_of}
use Rattle.rp_limits.specs.declared.patch.TheConstants.{UNITS}
use Rattle.rp_patch.specs.declared.apportionment.Units.{Units}
use Rattle.rp_table.specs.Sums.{sum_below}

-- Menu i, as its number.
abbrev pub menu_at : MenuList → ℕ → ℕ
menu_at list i = slice_index list.menus i

-- Units of the cells of these menus: one number for each cell, which make the same total on each menu.
pub record AreUnitsOf (list : MenuList) (units : Units) : Type 0 where
  pub one_each : length units.units ≡ length list.groups
  pub some : 1 ≤ units.total
  pub few : units.total ≤ UNITS
  pub filled : AreFilled (grouped list.groups list.counts) units.total (slice_index units.units)

-- The units of letter x on menu i: those of its cell, and none where it is no cell.
abbrev pub units_of : MenuList → Units → ℕ → ℕ → ℕ
units_of list units i x = sum_below (length list.groups)
    (λ c. if (slice_index list.groups c == i) && (slice_index list.chosen c == x) then slice_index units.units c else 0)

-- How much there is of the orders that pick letter x from a menu.
abbrev pub weight_picking : ℕ → ℕ → List Share → ℕ
weight_picking menu x parts = sum_by (λ part. if picked menu part.patches == x then part.weight else 0) parts

-- Strict orders, of which those that pick a letter from a menu have at most its units together, for each letter of each
-- menu. The weights are over the denominator; an order that is not listed has none.
pub record IsPartialOrderMixture (list : MenuList) (units : Units) (den : ℕ) (parts : List Share) : Type 0 where
  pub fraction : 0 < den
  pub orders : (part : Share) → Contains parts part → IsStrictOrder list.letters part.patches
  pub within : (i x : ℕ) → i < length list.menus → has_letter (menu_at list i) x ≡ true
      → weight_picking (menu_at list i) x parts ≤ den * units_of list units i x

-- Strict orders, of which those that pick a letter from a menu have just its units together.
pub record IsOrderMixture (list : MenuList) (units : Units) (den : ℕ) (parts : List Share) : Type 0 where
  pub fraction : 0 < den
  pub orders : (part : Share) → Contains parts part → IsStrictOrder list.letters part.patches
  pub exact : (i x : ℕ) → i < length list.menus → has_letter (menu_at list i) x ≡ true
      → weight_picking (menu_at list i) x parts ≡ den * units_of list units i x

-- Some mixture of strict orders makes the choices.
abbrev pub HasOrderMixture : MenuList → Units → Type 0
HasOrderMixture list units = (den : ℕ) × (parts : List Share) × IsOrderMixture list units den parts

-- No partial mixture has more of the total.
abbrev pub IsGreatestOrderMixture : MenuList → Units → ℕ → List Share → Type 0
IsGreatestOrderMixture list units den parts =
    (d : ℕ) (other : List Share) → IsPartialOrderMixture list units d other
    → weight_of other * den ≤ weight_of parts * d
