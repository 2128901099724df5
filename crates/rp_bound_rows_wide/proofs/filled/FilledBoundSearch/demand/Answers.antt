use Rattle.rp_garp.proofs.TestLemmas.{judged_in_table}
use Rattle.rp_bound_rows_wide.proofs.filled.FilledBoundSearch.demand.Goals as goal

pub returns-clause-given : goal.returns-clause-given
returns-clause-given c = record {
  stated = c.in_ok-stated.stated;
  is_stated = (c.args.tested.now.garp, judged_in_table c.args.table.now c.requires.no_levels c.args.tested.now c.requires.is_test, c.in_ok-stated.ensures.given);
  filled = c.in_ok-found.ensures.from_stated;
}
