use Rattle.std.proofs.Common.{◌≡◌, map, take}
use Rattle.rp_menu.specs.declared.cells.Cell.{Cell}
use Rattle.rp_menu.proofs.read.counts_of.Given as goal

abbrev pub invariant-loop-cell : goal.invariant-loop-cell
invariant-loop-cell l = l.counts.items ≡ map (λ (cell : Cell). cell.count) (take l.cell-index l.cells)
