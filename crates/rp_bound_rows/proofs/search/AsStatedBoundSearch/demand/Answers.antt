use Rattle.rp_evidence.specs.Input.{input_of_table}
use Rattle.rp_garp.proofs.TestLemmas.{judged_in_table}
use Rattle.rp_bound_rows.proofs.SmallLemmas.{small_demand}
use Rattle.rp_bound_rows.proofs.search.AsStatedBoundSearch.demand.Goals as goal

pub returns-clause-given : goal.returns-clause-given
returns-clause-given c = (
  c.args.tested.now.garp,
  judged_in_table c.args.table.now c.requires.no_levels c.args.tested.now c.requires.is_test,
  c.in_ok-part.ensures.given,
)

pub returns-clause-small : goal.returns-clause-small
returns-clause-small c =
    small_demand (input_of_table c.args.table.now) c.args.prices.now c.args.m c.args.tested.now.garp c.in_ok-part.part c.in_ok-part.ensures.given
