-- What `menus` prints: the report on choices from menus, with its evidence (Block and Marschak 1960).
use Rattle.std.specs.Prelude.{ℕ, List, Option}
use Rattle.rp_evidence.specs.declared.random.RandomPart.{RandomPart}
use Rattle.rp_menu.specs.MenuLists.{MenuList}
use Rattle.rp_orders.specs.MenuEvidence.{IsMenuVerdict, PassesMenus, ProvesMenus, ShowsSums}
use Rattle.rp_orders.specs.Report.{IsMenusReport}
use Rattle.rp_patch.specs.declared.apportionment.Units.{Units}

-- the evidence proves its verdict and is as it is given, and the check accepts it; where a mixture makes complete
-- choices, no sum is negative
pub record IsMenusAnswer (list : MenuList) (units : Units) (part : RandomPart) : Type 0 where
  pub proves : ProvesMenus list units part
  pub given : IsMenuVerdict list units part
  pub accepted : PassesMenus list units part
  pub sums : ShowsSums list units part

-- the text is the report of that, with the unit that was asked for
abbrev pub IsMenusText : Option ℕ → MenuList → Units → List ℕ → Type 0
IsMenusText per list units text =
    (part : RandomPart) × IsMenusAnswer list units part × IsMenusReport list units part per text
