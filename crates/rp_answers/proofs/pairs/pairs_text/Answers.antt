use Rattle.rp_table.specs.Cost.{cost_of, cost_at}
use Rattle.rp_table.specs.Tables.{records_of}
use Rattle.rp_garp.specs.Pairs.{IsOwnPairs}
use Rattle.rp_garp.proofs.SameVerdicts.{own_pairs_same}
use Rattle.rp_answers.proofs.SaysLemmas.{pair_says}
use Rattle.rp_answers.proofs.pairs.pairs_text.Goals as goal

pub returns : goal.returns
returns c =
    let costs = c.in_ok-costs.costs in
    let is = c.in_ok-costs.ensures in
    let table = c.args.table.now in
    let found : IsOwnPairs (records_of table) table.levels (cost_of table) c.pairs.result =
    rw (← is.size, ← is.levels) (own_pairs_same costs.n (cost_at costs) (cost_of table) (λ s t s_in t_in. is.each s t (rw is.size at s_in) (rw is.size at t_in)) costs.levels c.pairs.result c.pairs.ensures.own) in
    (c.pairs.result, found, pair_says table c.n.ensures.valid c.pairs.result found, c.in_ok-text.ensures)
