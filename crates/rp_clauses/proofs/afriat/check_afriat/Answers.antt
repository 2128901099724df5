use Rattle.std.proofs.Common.{ℕ, List, subst, sym}
use Rattle.rp_clauses.specs.AfriatFailure.{AfriatFails}
use Rattle.rp_clauses.specs.WalkFailure.{ViolationFails}
use Rattle.rp_evidence.specs.Preference.{StrictByLevels, WeakByLevels}
use Rattle.rp_evidence.specs.declared.afriat.AfriatPart.{AfriatPart}
use Rattle.rp_table.specs.Cost.{cost_of}
use Rattle.rp_table.specs.Tables.{records_of}
use Rattle.rp_clauses.proofs.afriat.check_afriat.Goals as goal

pub returns-in-NoModel : goal.returns-in-NoModel
returns-in-NoModel c =
    let table = c.args.input.now.table.now in
    let weak = WeakByLevels table.levels (cost_of table) in
    let strict = StrictByLevels table.levels (cost_of table) in
    subst (λ (evidence : AfriatPart). AfriatFails (records_of table) table.levels (cost_of table) evidence c.check_violation.result) (sym c.in-NoModel.is)
    (subst (λ (walk : List ℕ). ViolationFails (records_of table) weak strict walk c.check_violation.result) c.as_slice.ensures c.check_violation.ensures)
