use Rattle.std.proofs.Common.{◌≡◌, ◌+◌, ◌<◌, ◌^◌, if◌then◌else◌}
use Rattle.rp_table.specs.Sums.{sum_below}
use Rattle.rp_menu.specs.MenuTexts.{has_byte}
use Rattle.rp_menu.proofs.menu_texts.number_of_menu.Given as goal

abbrev pub invariant-loop-x : goal.invariant-loop-x
invariant-loop-x l = record {
  so_far : l.number ≡ sum_below l.x (λ x. if has_byte l.text (97 + x) then 2 ^ x else 0);
  small : l.number < 2 ^ l.x;
}
