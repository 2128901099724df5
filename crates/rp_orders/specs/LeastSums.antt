-- The least of the sums over the menus that hold a menu (after Block and Marschak 1960), and the first of those.
use Rattle.std.specs.Prelude.{◌≡◌, ◌⊎◌, ◌<◌, ◌≤ℤ◌, ◌<ℤ◌, ◌^◌, ℕ, true}
use Rattle.rp_menu.specs.MenuLists.{MenuList, has_letter}
use Rattle.rp_orders.specs.MenuSums.{sum_at}
use Rattle.rp_patch.specs.declared.apportionment.Units.{Units}

-- letter y at menu B comes before letter x at menu A: by the number of the menu, then by letter
abbrev pub SumComesBefore : ℕ → ℕ → ℕ → ℕ → Type 0
SumComesBefore b y a x = (b < a) ⊎ ((b ≡ a) × (y < x))

-- No sum is less than that of letter x at menu A, which holds it, and each that comes before it is greater.
pub record IsLeastMenuSum (list : MenuList) (units : Units) (a x : ℕ) : Type 0 where
  pub within : a < 2 ^ list.letters
  pub held : has_letter a x ≡ true
  pub least : (b y : ℕ) → b < 2 ^ list.letters → has_letter b y ≡ true
      → sum_at list units x a ≤ℤ sum_at list units y b
  pub first : (b y : ℕ) → has_letter b y ≡ true → SumComesBefore b y a x
      → sum_at list units x a <ℤ sum_at list units y b
