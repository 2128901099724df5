use Rattle.std.proofs.Common.{◌∙◌}
use Rattle.rp_bound_rows_wide.proofs.ItemLemmas.{welfare_part}
use Rattle.rp_bound_rows_wide.proofs.filled.found_welfare.Goals as goal

pub returns-clause-small : goal.returns-clause-small
returns-clause-small c =
    (welfare_part c.args.table.now c.requires.is_test.valid c.args.prices.now c.from_vec.result c.in-Welfare.prices c.args.t c.in-Welfare.of c.args.stated c.in-Welfare.part c.in_ok-found.found c.requires.prices
    (c.from_vec.ensures ∙ c.in_ok-listed.ensures.items) c.in_ok-found.ensures c.in-Welfare.is).3
