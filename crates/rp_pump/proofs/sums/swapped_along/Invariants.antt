use Rattle.std.proofs.Common.{◌≡◌, ◌+◌, ◌*◌, ◌^◌, ◌≤◌, take}
use Rattle.rp_fit.specs.WalkSums.{next_sum}
use Rattle.rp_table.specs.Cost.{cost_at}
use Rattle.rp_pump.proofs.sums.swapped_along.Given as goal

abbrev pub invariant-loop-k : goal.invariant-loop-k
invariant-loop-k l = (l.sum ≡ next_sum (cost_at l.costs) (take (l.k + 1) l.walk)) × (l.sum ≤ l.k * 2 ^ 51)
