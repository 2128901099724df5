use Rattle.std.proofs.Common.{◌≡◌, ◌≤◌, ◌+◌, ◌*◌, ◌^◌, take}
use Rattle.rp_fit.specs.WalkSums.{walk_sum}
use Rattle.rp_table.specs.Cost.{cost_of}
use Rattle.rp_check_walk_levels.proofs.sums.next_along.Given as goal

abbrev pub invariant-loop-k : goal.invariant-loop-k
invariant-loop-k l = (l.sum ≡ walk_sum (cost_of l.input.table.now) (take (l.k + 1) l.walk)) × (l.sum ≤ l.k * 2 ^ 51)
