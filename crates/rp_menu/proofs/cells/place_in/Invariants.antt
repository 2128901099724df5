use Rattle.std.proofs.Common.{◌≢◌, ◌<◌, ℕ, slice_index}
use Rattle.rp_menu.proofs.cells.place_in.Given as goal

abbrev pub invariant-loop-i : goal.invariant-loop-i
invariant-loop-i l = (k : ℕ) → k < l.i → slice_index l.menus k ≢ l.menu
