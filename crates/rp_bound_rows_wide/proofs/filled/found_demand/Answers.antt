use Rattle.std.proofs.Common.{◌∙◌}
use Rattle.rp_evidence.specs.Input.{input_of_table}
use Rattle.rp_bound_rows_wide.proofs.ItemLemmas.{demand_part}
use Rattle.rp_bound_rows_wide.proofs.filled.found_demand.Goals as goal

pub returns-clause-small : goal.returns-clause-small
returns-clause-small c =
    (demand_part (input_of_table c.args.table.now) c.args.prices.now c.from_vec.result c.in-Demand.prices c.args.m c.in-Demand.m c.args.stated c.in-Demand.part c.in_ok-found.found (c.from_vec.ensures ∙ c.in_ok-listed.ensures.items)
    c.in_ok-found.ensures c.in-Demand.is).3
