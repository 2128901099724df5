use Rattle.std.proofs.Common.{◌≡◌, ◌*◌, ◌≤◌, slice_index}
use Rattle.rp_table.specs.Sums.{sum_below}
use Rattle.rp_power.proofs.shares.total.Given as goal

abbrev pub invariant-loop-g : goal.invariant-loop-g
invariant-loop-g l = record {
  so_far : l.total ≡ sum_below l.g (slice_index l.numbers);
  at_most : l.total ≤ l.g * 9999999;
}
