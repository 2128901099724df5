use Rattle.std.proofs.Common.{◌≡◌}
use Rattle.rp_num.specs.Below.{listed}
use Rattle.rp_power.specs.InnerSpent.{own_cost_among}
use Rattle.rp_power.proofs.contradiction.fill_own_costs.Given as goal

abbrev pub invariant-loop-t : goal.invariant-loop-t
invariant-loop-t l = l.own.items ≡ listed l.t (own_cost_among l.table l.quantities)
