use Rattle.std.proofs.Common.{◌≡◌, ◌==◌, slice_index, if◌then◌else◌}
use Rattle.rp_table.specs.Sums.{sum_below}
use Rattle.rp_patch.proofs.totals.sum_of.Given as goal

abbrev pub invariant-loop-i : goal.invariant-loop-i
invariant-loop-i l = l.sum ≡ sum_below l.i (λ i. if slice_index l.groups i == l.j then slice_index l.counts i else 0)
