use Rattle.std.proofs.Common.{◌≡◌, ◌<◌, ℕ, false}
use Rattle.rp_menu.specs.Cells.{cell_at}
use Rattle.rp_menu.specs.InnerCells.{is_seat}
use Rattle.rp_menu.proofs.cells.seat_of.Given as goal

abbrev pub invariant-loop-i : goal.invariant-loop-i
invariant-loop-i l = (k : ℕ) → k < l.i → is_seat (cell_at l.cells k) l.new ≡ false
