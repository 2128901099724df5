use Rattle.std.proofs.Common.{◌≡◌, ◌*◌, ◌≤◌, slice_index}
use Rattle.rp_table.specs.Spending.{spending}
use Rattle.rp_table.specs.Sums.{sum_below}
use Rattle.rp_table.proofs.spending.cost_of_bundle.Given as goal

abbrev pub invariant-loop-g : goal.invariant-loop-g
invariant-loop-g l = record {
  so_far : l.total ≡ spending l.g (slice_index l.prices) (slice_index l.bundle);
  at_least : sum_below l.g (slice_index l.bundle) ≤ l.total;
  at_most : l.total ≤ l.g * 99999980000001;
}
