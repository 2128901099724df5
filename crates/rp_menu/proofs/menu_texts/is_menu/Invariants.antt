use Rattle.std.proofs.Common.{◌≡◌, false}
use Rattle.rp_num.specs.Below.{any_below}
use Rattle.rp_menu.specs.MenuTexts.{is_wrong_at}
use Rattle.rp_menu.proofs.menu_texts.is_menu.Given as goal

abbrev pub invariant-loop-k : goal.invariant-loop-k
invariant-loop-k l = any_below l.k (is_wrong_at l.text) ≡ false
