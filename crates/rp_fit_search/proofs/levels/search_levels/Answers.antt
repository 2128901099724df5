use Rattle.std.proofs.Common.{Ok}
use Rattle.rp_check_levels.proofs.Sound.{levels_prove}
use Rattle.rp_fit_search.proofs.levels.search_levels.Goals as goal

pub returns-in-Err-clause-proves : goal.returns-in-Err-clause-proves
returns-in-Err-clause-proves c =
    let input = c.args.input.now in
    levels_prove input.costs.now input.table.now c.n.ensures.valid input.same c.in_ok-plain.plain (Ok tt) c.in_ok-plain.ensures.accepted
