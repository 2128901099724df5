use Rattle.rp_fit_search.specs.InnerByRanks.{IsCheapestUpTo}
use Rattle.rp_table.specs.Cost.{cost_of}
use Rattle.rp_table.specs.Tables.{records_of}
use Rattle.rp_fit_search.proofs.levels_by_ranks.cheapest_rising.Given as goal

abbrev pub invariant-loop-t : goal.invariant-loop-t
invariant-loop-t l = IsCheapestUpTo (records_of l.input.table.now) (cost_of l.input.table.now) l.ranks l.t l.s l.cheapest
