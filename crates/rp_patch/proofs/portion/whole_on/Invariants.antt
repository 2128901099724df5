use Rattle.std.proofs.Common.{◌≡◌, ◌≤◌, ◌*◌, ◌==◌, if◌then◌else◌}
use Rattle.rp_table.specs.Sums.{sum_below}
use Rattle.rp_patch.specs.InnerPortions.{portion_at}
use Rattle.rp_patch.proofs.portion.whole_on.Given as goal

abbrev pub invariant-loop-portion : goal.invariant-loop-portion
invariant-loop-portion l = record {
  so_far : l.whole ≡ sum_below l.portion-index (λ i. if (portion_at l.portions i).group == l.j then (portion_at l.portions i).whole else 0);
  few : l.whole ≤ l.portion-index * 1000000000;
}
