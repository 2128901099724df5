-- Words that only proofs need: the terms of the sums over menus.
use Rattle.std.specs.Prelude.{◌-◌, ◌%◌, ◌==◌, ℕ, ℤ, pos, if◌then◌else◌}
use Rattle.rp_menu.specs.MenuLists.{MenuList}
use Rattle.rp_orders.specs.MenuSums.{holds, signed, size_of, units_on}
use Rattle.rp_patch.specs.declared.apportionment.Units.{Units}

-- what menu B adds to the sum of letter x at menu A
abbrev pub added_at : MenuList → Units → ℕ → ℕ → ℕ → ℤ
added_at list units x a b =
    if holds b a then signed ((size_of list.letters b - size_of list.letters a) % 2 == 0) (units_on list units b x)
    else pos 0
