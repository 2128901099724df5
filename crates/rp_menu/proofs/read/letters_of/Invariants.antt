use Rattle.std.proofs.Common.{◌≡◌}
use Rattle.rp_num.specs.Below.{greatest_below}
use Rattle.rp_menu.specs.Cells.{menu_row_at, top_of}
use Rattle.rp_menu.proofs.read.letters_of.Given as goal

abbrev pub invariant-loop-t : goal.invariant-loop-t
invariant-loop-t l = l.letters ≡ greatest_below l.t (λ t. top_of (menu_row_at l.menu_rows t).menu)
