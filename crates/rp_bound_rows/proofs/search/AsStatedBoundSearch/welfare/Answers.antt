use Rattle.rp_garp.proofs.TestLemmas.{judged_in_table}
use Rattle.rp_bound_rows.proofs.SmallLemmas.{small_welfare}
use Rattle.rp_bound_rows.proofs.search.AsStatedBoundSearch.welfare.Goals as goal

pub returns-clause-given : goal.returns-clause-given
returns-clause-given c = (
  c.args.tested.now.garp,
  judged_in_table c.args.table.now c.requires.no_levels c.args.tested.now c.requires.is_test,
  c.in_ok-part.ensures.given,
)

pub returns-clause-small : goal.returns-clause-small
returns-clause-small c =
    small_welfare c.args.table.now c.requires.is_test.valid c.args.prices.now c.requires.prices c.args.t c.args.tested.now.garp c.in_ok-part.part c.in_ok-part.ensures.given
