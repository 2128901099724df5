use Rattle.std.proofs.Common.{◌≡◌, ◌++◌}
use Rattle.rp_orders.specs.Report.{letters_below}
use Rattle.rp_orders.proofs.report.push_menu.Given as goal

abbrev pub invariant-loop-letter : goal.invariant-loop-letter
invariant-loop-letter l = l.out.items ≡ l.initial.out.items ++ letters_below l.letter l.menu
