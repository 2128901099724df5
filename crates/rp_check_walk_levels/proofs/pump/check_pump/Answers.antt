use Rattle.rp_check_walk_levels.proofs.PumpSound.{pump_exact, pump_proves, pump_tells_garp}
use Rattle.rp_table.specs.Cost.{cost_of}
use Rattle.rp_table.specs.Tables.{records_of}
use Rattle.rp_check_walk_levels.proofs.pump.check_pump.Goals as goal

pub returns-clause-exact : goal.returns-clause-exact
returns-clause-exact c =
    let table = c.args.input.now.table.now in
    pump_exact (records_of table) (cost_of table) c.args.part.now c.check_clauses.result c.check_clauses.ensures

pub returns-clause-proves : goal.returns-clause-proves
returns-clause-proves c =
    let table = c.args.input.now.table.now in
    pump_proves (records_of table) (cost_of table) c.args.part.now c.check_clauses.result c.check_clauses.ensures

pub returns-clause-garp : goal.returns-clause-garp
returns-clause-garp c =
    let input = c.args.input.now in
    pump_tells_garp input.costs.now input.table.now c.n.ensures.valid input.same c.args.part.now c.check_clauses.result c.check_clauses.ensures
