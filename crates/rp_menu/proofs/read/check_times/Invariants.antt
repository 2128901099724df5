use Rattle.std.proofs.Common.{◌≡◌, false, nat_lt}
use Rattle.rp_num.specs.Below.{any_below}
use Rattle.rp_menu.specs.Cells.{menu_row_at}
use Rattle.rp_menu.proofs.read.check_times.Given as goal

abbrev pub invariant-loop-t : goal.invariant-loop-t
invariant-loop-t l = any_below l.t (λ t. nat_lt 0 (menu_row_at l.menu_rows t).times) ≡ false
