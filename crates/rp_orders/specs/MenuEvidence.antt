-- What evidence on choices from menus has to be to prove its verdict, which verdict is given, and what a check of it
-- decides (Block and Marschak 1960; the weights of the cells are the dual side of the program of mixtures).
use Rattle.std.specs.Prelude.{◌≡◌, ◌≤◌, ℕ, List, Ok, length}
use Rattle.rp_find_mixture.specs.MixtureVerdict.{IsRunVerdict}
use Rattle.rp_evidence.specs.declared.random.RandomPart.{RandomPart}
use Rattle.rp_evidence.specs.declared.random.RandomPart.TheVariants.{Mixture, Violated, Wide}
use Rattle.rp_evidence.specs.declared.random.Share.{Share}
use Rattle.rp_menu.specs.MenuLists.{MenuList}
use Rattle.rp_orders.specs.MenuSums.{AreComplete, HasNoNegativeSum}
use Rattle.rp_orders.specs.OrderKinds.{PicksCells, cells_picked, orders_over}
use Rattle.rp_orders.specs.OrderMixtures.{HasOrderMixture, IsGreatestOrderMixture, IsOrderMixture}
use Rattle.rp_orders.specs.OrderMixtures.{IsPartialOrderMixture}
use Rattle.rp_patch.specs.KindFailure.{EvidenceFailsOf}
use Rattle.rp_patch.specs.Kinds.{AreAllOf, cells_weight}
use Rattle.rp_patch.specs.declared.apportionment.Units.{Units}

-- The evidence of a violation: no mixture makes the choices; the parts are a partial mixture, and none has a greater
-- share; and every order that picks a cell from every menu picks cells that together weigh at least the denominator.
pub record ProvesNoOrderMixture (list : MenuList) (units : Units) (den : ℕ) (parts : List Share)
    (weights : List ℕ) : Type 0 where
  pub none : ¬ HasOrderMixture list units
  pub partial : IsPartialOrderMixture list units den parts
  pub greatest : IsGreatestOrderMixture list units den parts
  pub one_each : length weights ≡ length list.groups
  pub weighs : (order : List ℕ) → PicksCells list order → den ≤ cells_weight weights (cells_picked list order)

-- Evidence proves its verdict: the parts are a mixture, or there is none. What is withheld has no verdict.
abbrev pub ProvesMenus : MenuList → Units → RandomPart → Type 0
ProvesMenus list units (Mixture den parts) = IsOrderMixture list units den parts
ProvesMenus list units (Violated den parts weights) = ProvesNoOrderMixture list units den parts weights
ProvesMenus list units (Wide step) = Unit {0}

-- Beside a part, whatever it is and also where it is withheld: where the data are complete and some mixture of strict
-- orders makes the choices, no sum is negative (Block and Marschak 1960).
pub record ShowsSums (list : MenuList) (units : Units) (part : RandomPart) : Type 0 where
  pub none_negative : AreComplete list → HasOrderMixture list units → HasNoNegativeSum list units

-- The verdict is made from the outcome of the run of the program of mixtures over all orders that pick a cell from
-- every menu, in lexicographic order.
abbrev pub IsMenuVerdict : MenuList → Units → RandomPart → Type 0
IsMenuVerdict list units part =
    (orders : List (List ℕ)) × AreAllOf (PicksCells list) orders × IsRunVerdict (orders_over list units) orders part

-- The evidence breaks none of the clauses on a mixture of these kinds, which it is checked by in order.
abbrev pub PassesMenus : MenuList → Units → RandomPart → Type 0
PassesMenus list units part = EvidenceFailsOf (orders_over list units) part (Ok tt)
