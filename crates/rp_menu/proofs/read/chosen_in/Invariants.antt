use Rattle.std.proofs.Common.{◌≡◌, map, take}
use Rattle.rp_menu.specs.declared.cells.Cell.{Cell}
use Rattle.rp_menu.proofs.read.chosen_in.Given as goal

abbrev pub invariant-loop-cell : goal.invariant-loop-cell
invariant-loop-cell l = l.chosen.items ≡ map (λ (cell : Cell). cell.letter) (take l.cell-index l.cells)
