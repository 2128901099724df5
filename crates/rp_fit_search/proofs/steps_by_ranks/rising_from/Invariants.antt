use Rattle.rp_fit_search.specs.InnerByRanks.{AreRisingUpTo}
use Rattle.rp_table.specs.Cost.{cost_of}
use Rattle.rp_table.specs.Tables.{records_of}
use Rattle.rp_fit_search.proofs.steps_by_ranks.rising_from.Given as goal

abbrev pub invariant-loop-t : goal.invariant-loop-t
invariant-loop-t l = AreRisingUpTo (records_of l.input.table.now) (cost_of l.input.table.now) l.ranks l.t l.s l.row.items
