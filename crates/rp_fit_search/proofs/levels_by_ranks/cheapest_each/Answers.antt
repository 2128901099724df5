use Rattle.rp_fit_search.proofs.LevelsByRanks.{cheapest_below_pushed}
use Rattle.rp_table.specs.Cost.{cost_of}
use Rattle.rp_table.specs.Tables.{records_of}
use Rattle.rp_fit_search.proofs.levels_by_ranks.cheapest_each.Goals as goal

pub loop-s-preserved : goal.loop-s-preserved
loop-s-preserved c =
    let l = c.loop-s in
    let table = c.args.input.now.table.now in
    cheapest_below_pushed (records_of table) (cost_of table) c.args.ranks.now l.s l.at.items c.cheapest_rising.result c.push.new.self.items l.invariant c.cheapest_rising.ensures c.in_ok-push.ensures.items
