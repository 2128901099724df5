use Rattle.rp_fit_search.specs.InnerByRanks.{AreRisingBelow}
use Rattle.rp_table.specs.Cost.{cost_of}
use Rattle.rp_table.specs.Tables.{records_of}
use Rattle.rp_fit_search.proofs.steps_by_ranks.rising_each.Given as goal

abbrev pub invariant-loop-s : goal.invariant-loop-s
invariant-loop-s l = AreRisingBelow (records_of l.input.table.now) (cost_of l.input.table.now) l.ranks l.s l.rows.items
