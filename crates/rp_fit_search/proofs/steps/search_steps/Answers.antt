use Rattle.std.proofs.Common.{Ok}
use Rattle.rp_check_levels.proofs.Sound.{steps_prove}
use Rattle.rp_table.specs.Cost.{cost_of}
use Rattle.rp_table.specs.Tables.{records_of}
use Rattle.rp_fit_search.proofs.steps.search_steps.Goals as goal

pub returns-in-Err-clause-proves : goal.returns-in-Err-clause-proves
returns-in-Err-clause-proves c =
    let table = c.args.input.now.table.now in
    steps_prove (records_of table) (cost_of table) c.in_ok-plain.plain (Ok tt) c.in_ok-plain.ensures
