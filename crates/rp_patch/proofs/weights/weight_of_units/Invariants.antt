use Rattle.std.proofs.Common.{◌≡◌, ◌≤◌, ◌*◌, ◌^◌, slice_index}
use Rattle.rp_table.specs.Sums.{sum_below}
use Rattle.rp_patch.proofs.weights.weight_of_units.Given as goal

abbrev pub invariant-loop-i : goal.invariant-loop-i
invariant-loop-i g l =
    (l.weight ≡ sum_below l.i (λ i. slice_index l.weights i * (g.C.CellUnits.kinds l.cells).units i))
    × (l.weight ≤ l.i * (2 ^ 64 * 1000000000))
