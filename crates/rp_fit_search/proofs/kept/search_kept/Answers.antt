use Rattle.std.proofs.Common.{Ok}
use Rattle.rp_check_fit.proofs.KeptSound.{kept_proves}
use Rattle.rp_table.specs.Cost.{cost_of}
use Rattle.rp_table.specs.Tables.{records_of}
use Rattle.rp_fit_search.proofs.kept.search_kept.Goals as goal

pub returns-in-Err-clause-proves : goal.returns-in-Err-clause-proves
returns-in-Err-clause-proves c =
    let table = c.args.input.now.table.now in
    kept_proves (records_of table) (cost_of table) c.in_ok-plain.plain (Ok tt) c.in_ok-plain.ensures
