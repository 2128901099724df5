use Rattle.rp_fit_search.proofs.StepsByRanks.{rising_below_pushed}
use Rattle.rp_table.specs.Cost.{cost_of}
use Rattle.rp_table.specs.Tables.{records_of}
use Rattle.rp_fit_search.proofs.steps_by_ranks.rising_each.Goals as goal

pub loop-s-preserved : goal.loop-s-preserved
loop-s-preserved c =
    let l = c.loop-s in
    let table = c.args.input.now.table.now in
    rising_below_pushed (records_of table) (cost_of table) c.args.ranks.now l.s l.rows.items c.in_ok-rising_from.field-0.items c.from_vec.result c.push.new.self.items
    l.invariant c.in_ok-rising_from.ensures c.from_vec.ensures c.in_ok-push.ensures.items
