use Rattle.rp_fit_search.specs.InnerByRanks.{AreCheapestBelow}
use Rattle.rp_table.specs.Cost.{cost_of}
use Rattle.rp_table.specs.Tables.{records_of}
use Rattle.rp_fit_search.proofs.levels_by_ranks.cheapest_each.Given as goal

abbrev pub invariant-loop-s : goal.invariant-loop-s
invariant-loop-s l = AreCheapestBelow (records_of l.input.table.now) (cost_of l.input.table.now) l.ranks l.s l.at.items
