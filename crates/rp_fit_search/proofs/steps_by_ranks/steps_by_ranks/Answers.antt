use Rattle.std.proofs.Common.{◌∙◌, arith}
use Rattle.rp_fit_search.proofs.StepsByRanks.{steps_of_lists_pass}
use Rattle.rp_table.specs.Cost.{cost_of}
use Rattle.rp_table.specs.Tables.{records_of}
use Rattle.rp_fit_search.proofs.steps_by_ranks.steps_by_ranks.Goals as goal

pub returns : goal.returns
returns c =
    let table = c.args.input.now.table.now in
    let ranks = c.in_ok-ranks.ranks in
    let rising = rw c.as_slice.ensures.value at c.in_ok-taken.ensures in
    let costs = rw c.as_slice-2.ensures.value at c.cost_of_taken-cost.ensures in
    steps_of_lists_pass (records_of table) (cost_of table) c.in_ok-taken.taken.items c.cost_of_taken-cost.result ranks.items c.from_vec.result c.from_vec-2.result c.from_vec-3.result
    c.from_vec.ensures c.from_vec-2.ensures (c.from_vec-3.ensures ∙ c.new.ensures.items) (omega (arith, c.in_ok-ranks.ensures, ranks.ok.0)) rising costs
