use Rattle.std.proofs.Common.{◌≡◌}
use Rattle.rp_num.specs.Below.{rows_below}
use Rattle.rp_table.specs.Tables.{records_of}
use Rattle.rp_power.specs.InnerSpent.{cost_among}
use Rattle.rp_power.proofs.spending.fill_costs.Given as goal

abbrev pub invariant-loop-s : goal.invariant-loop-s
invariant-loop-s l = l.costs.items ≡ rows_below l.s (records_of l.table) (cost_among l.table l.quantities)
