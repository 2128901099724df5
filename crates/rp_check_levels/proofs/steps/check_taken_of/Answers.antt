use Rattle.std.proofs.Common.{List, ℕ, subst}
use Rattle.rp_table.specs.Cost.{cost_of}
use Rattle.rp_table.specs.Tables.{records_of}
use Rattle.rp_check_levels.specs.StepsFailure.{TakenFails}
use Rattle.rp_check_levels.proofs.steps.check_taken_of.Goals as goal

pub returns : goal.returns
returns c =
    let table = c.args.input.now.table.now in
    let r = c.check_taken.result in
    subst (λ (ranks : List ℕ). TakenFails (records_of table) (cost_of table) c.args.part.now.taken ranks r) c.as_slice-2.ensures
    (subst (λ (taken : List (List ℕ)). TakenFails (records_of table) (cost_of table) taken c.as_slice-2.result.now r) c.as_slice.ensures c.check_taken.ensures)
