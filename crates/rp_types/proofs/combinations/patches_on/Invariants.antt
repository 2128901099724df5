use Rattle.std.proofs.Common.{◌≡◌, ◌≤◌, ◌==◌, if◌then◌else◌}
use Rattle.rp_table.specs.Sums.{sum_below}
use Rattle.rp_patch.specs.Patches.{budget_at}
use Rattle.rp_types.proofs.combinations.patches_on.Given as goal

abbrev pub invariant-loop-i : goal.invariant-loop-i
invariant-loop-i l = record {
  so_far : l.on ≡ sum_below l.i (λ i. if budget_at l.patches i == l.j then 1 else 0);
  few : l.on ≤ l.i;
}
