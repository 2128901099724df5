use Rattle.std.proofs.Common.{◌≡◌, ◌≤◌, ◌+◌, if◌then◌else◌}
use Rattle.rp_num.specs.Below.{greatest_below}
use Rattle.rp_menu.specs.MenuLists.{has_letter}
use Rattle.rp_menu.proofs.read.top_of.Given as goal

abbrev pub invariant-loop-x : goal.invariant-loop-x
invariant-loop-x l = record {
  so_far : l.top ≡ greatest_below l.x (λ x. if has_letter l.menu x then x + 1 else 0);
  low : l.top ≤ l.x;
}
