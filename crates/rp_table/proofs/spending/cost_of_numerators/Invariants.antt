use Rattle.std.proofs.Common.{◌≡◌, ◌*◌, ◌≤◌, slice_index}
use Rattle.rp_table.specs.Spending.{spending}
use Rattle.rp_table.proofs.spending.cost_of_numerators.Given as goal

abbrev pub invariant-loop-g : goal.invariant-loop-g
invariant-loop-g l = record {
  so_far : l.total ≡ spending l.g (slice_index l.prices) (slice_index l.numerators);
  at_most : l.total ≤ l.g * 184467422290351442440448385;
}
