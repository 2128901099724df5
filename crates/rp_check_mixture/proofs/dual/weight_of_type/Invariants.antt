use Rattle.std.proofs.Common.{◌≡◌, ◌≤◌, ◌*◌, ◌^◌, slice_index}
use Rattle.rp_table.specs.Sums.{sum_below}
use Rattle.rp_check_mixture.proofs.dual.weight_of_type.Given as goal

abbrev pub invariant-loop-i : goal.invariant-loop-i
invariant-loop-i l =
    (l.weight ≡ sum_below l.i-index (λ j. slice_index l.weights (slice_index l.numbers j)))
    × (l.weight ≤ l.i-index * 2 ^ 64)
