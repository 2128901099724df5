use Rattle.rp_table.specs.Tables.{records_of}
use Rattle.rp_power.proofs.SpentLemmas.{fails_where_told}
use Rattle.rp_power.proofs.count.fails.Goals as goal

pub returns : goal.returns
returns c =
    fails_where_told c.n-n.result (records_of c.args.table.now) c.args.costs.now c.in_ok-holds.holds c.n-n.ensures.count c.in_ok-holds.ensures.violated
