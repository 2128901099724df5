use Rattle.rp_check_walk_levels.proofs.LevelSound.{homothetic_level_proves}
use Rattle.rp_table.specs.Cost.{cost_of}
use Rattle.rp_table.specs.Tables.{records_of}
use Rattle.rp_check_walk_levels.proofs.homothetic_level.check_homothetic_level.Goals as goal

pub returns-clause-proves : goal.returns-clause-proves
returns-clause-proves c =
    let table = c.args.input.now.table.now in
    homothetic_level_proves (records_of table) (cost_of table) c.args.part.now c.check_clauses.result c.check_clauses.ensures
