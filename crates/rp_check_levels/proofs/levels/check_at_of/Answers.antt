use Rattle.std.proofs.Common.{List, ℕ, subst}
use Rattle.rp_table.specs.Cost.{cost_of}
use Rattle.rp_table.specs.Tables.{records_of}
use Rattle.rp_check_levels.specs.LevelsFailure.{AtFails}
use Rattle.rp_check_levels.proofs.levels.check_at_of.Goals as goal

pub returns : goal.returns
returns c =
    let table = c.args.input.now.table.now in
    let r = c.check_at.result in
    subst (λ (ranks : List ℕ). AtFails (records_of table) (cost_of table) c.args.part.now.at ranks r) c.as_slice-2.ensures
    (subst (λ (levels : List ℕ). AtFails (records_of table) (cost_of table) levels c.as_slice-2.result.now r) c.as_slice.ensures c.check_at.ensures)
