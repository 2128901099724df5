-- The sums of units over the menus that hold a menu (after Block and Marschak 1960), where the data are complete.
use Rattle.std.specs.Prelude.{◌≡◌, ◌<◌, ◌≤◌, ◌-◌, ◌%◌, ◌^◌, ◌==◌, ◌≤ℤ◌, ℕ, Bool, true, ℤ, pos, neg_ℤ, bit_and}
use Rattle.std.specs.Prelude.{length, if◌then◌else◌}
use Rattle.rp_farkas.specs.Total.{total}
use Rattle.rp_menu.specs.MenuLists.{MenuList, has_letter}
use Rattle.rp_orders.specs.OrderMixtures.{menu_at, units_of}
use Rattle.rp_patch.specs.declared.apportionment.Units.{Units}
use Rattle.rp_table.specs.Sums.{sum_below}

-- how many letters a menu has, of so many that there are
abbrev pub size_of : ℕ → ℕ → ℕ
size_of letters menu = sum_below letters (λ x. if has_letter menu x then 1 else 0)

-- the menu is one from which something was chosen
abbrev pub IsSeen : MenuList → ℕ → Type 0
IsSeen list menu = (i : ℕ) × (i < length list.menus) × (menu_at list i ≡ menu)

-- Every menu of two or more of the letters was chosen from.
abbrev pub AreComplete : MenuList → Type 0
AreComplete list = (menu : ℕ) → menu < 2 ^ list.letters → 2 ≤ size_of list.letters menu → IsSeen list menu

-- The units of letter x on a menu: where that has one letter alone the total, else those of the menu that was chosen
-- from.
abbrev pub units_on : MenuList → Units → ℕ → ℕ → ℕ
units_on list units menu x =
    if size_of list.letters menu == 1 then units.total
    else sum_below (length list.menus) (λ i. if menu_at list i == menu then units_of list units i x else 0)

-- menu B holds menu A
abbrev pub holds : ℕ → ℕ → Bool
holds b a = bit_and b a == a

-- units counted by whether a menu has an even number of letters more than another
abbrev pub signed : Bool → ℕ → ℤ
signed even units = if even then pos units else neg_ℤ (pos units)

-- The sum of letter x at menu A: over the menus B that hold A, the units of letter x on B, with a minus where B has an
-- odd number of further letters.
abbrev pub sum_at : MenuList → Units → ℕ → ℕ → ℤ
sum_at list units x a = total (2 ^ list.letters)
    (λ b. if holds b a
    then signed ((size_of list.letters b - size_of list.letters a) % 2 == 0) (units_on list units b x)
    else pos 0)

-- No sum is negative, of any letter at any menu.
abbrev pub HasNoNegativeSum : MenuList → Units → Type 0
HasNoNegativeSum list units =
    (x menu : ℕ) → menu < 2 ^ list.letters → has_letter menu x ≡ true → pos 0 ≤ℤ sum_at list units x menu
