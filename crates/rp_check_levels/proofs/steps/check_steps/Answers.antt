use Rattle.rp_check_levels.proofs.Sound.{steps_prove}
use Rattle.rp_table.specs.Cost.{cost_of}
use Rattle.rp_table.specs.Tables.{records_of}
use Rattle.rp_check_levels.proofs.steps.check_steps.Goals as goal

pub returns-clause-proves : goal.returns-clause-proves
returns-clause-proves c =
    let table = c.args.input.now.table.now in
    steps_prove (records_of table) (cost_of table) c.args.part.now c.check_clauses.result c.check_clauses.ensures
