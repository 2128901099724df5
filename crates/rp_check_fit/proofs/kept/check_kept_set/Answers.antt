use Rattle.std.proofs.Common.{List, ℕ, subst}
use Rattle.rp_table.specs.Cost.{cost_of}
use Rattle.rp_table.specs.Tables.{records_of}
use Rattle.rp_check_fit.specs.KeptFailure.{SetFails}
use Rattle.rp_check_fit.proofs.kept.check_kept_set.Goals as goal

pub returns : goal.returns
returns c =
    let table = c.args.input.now.table.now in
    let r = c.check_set.result in
    subst (λ (ranks : List ℕ). SetFails (records_of table) (cost_of table) c.args.part.now.kept ranks r) c.as_slice-2.ensures
    (subst (λ (kept : List ℕ). SetFails (records_of table) (cost_of table) kept c.as_slice-2.result.now r) c.as_slice.ensures c.check_set.ensures)
