use Rattle.std.proofs.Common.{◌∙◌, arith}
use Rattle.rp_fit_search.proofs.LevelsByRanks.{levels_of_lists_pass}
use Rattle.rp_table.specs.Cost.{cost_of}
use Rattle.rp_table.specs.Tables.{records_of}
use Rattle.rp_fit_search.proofs.levels_by_ranks.levels_by_ranks.Goals as goal

pub returns-clause-accepted : goal.returns-clause-accepted
returns-clause-accepted c =
    let table = c.args.input.now.table.now in
    let ranks = c.in_ok-ranks.ranks in
    let cheapest = rw c.as_slice.ensures.value at c.in_ok-at.ensures in
    levels_of_lists_pass (records_of table) (cost_of table) c.args.lack c.in_ok-at.at.items ranks.items c.from_vec.result c.from_vec-2.result c.from_vec-3.result
    c.from_vec.ensures c.from_vec-2.ensures (c.from_vec-3.ensures ∙ c.new.ensures.items) (omega (arith, c.in_ok-ranks.ensures, ranks.ok.0)) cheapest
