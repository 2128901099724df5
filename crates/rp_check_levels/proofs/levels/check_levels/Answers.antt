use Rattle.rp_check_levels.proofs.Sound.{levels_prove}
use Rattle.rp_table.specs.Cost.{cost_of}
use Rattle.rp_table.specs.Tables.{records_of}
use Rattle.rp_check_levels.proofs.levels.check_levels.Goals as goal

pub returns-clause-proves : goal.returns-clause-proves
returns-clause-proves c =
    let input = c.args.input.now in
    levels_prove input.costs.now input.table.now c.n.ensures.valid input.same c.args.part.now c.check_clauses.result c.check_clauses.ensures
