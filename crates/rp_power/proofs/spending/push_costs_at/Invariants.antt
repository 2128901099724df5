use Rattle.std.proofs.Common.{◌≡◌, ◌++◌}
use Rattle.rp_num.specs.Below.{listed}
use Rattle.rp_power.specs.InnerSpent.{cost_among}
use Rattle.rp_power.proofs.spending.push_costs_at.Given as goal

abbrev pub invariant-loop-t : goal.invariant-loop-t
invariant-loop-t l = l.costs.items ≡ l.fn.costs.items ++ listed l.t (cost_among l.table l.quantities l.s)
