use Rattle.std.proofs.Common.{sym, ◌∙◌}
use Rattle.rp_check_fit.proofs.ViolationTests.{violation_decided}
use Rattle.rp_evidence.specs.Preference.{IsStrict, IsWeak}
use Rattle.rp_table.specs.Cost.{cost_of}
use Rattle.rp_table.specs.Tables.{records_of}
use Rattle.rp_check_fit.proofs.kept_groups.is_violation.Goals as goal

pub returns : goal.returns
returns c =
    let table = c.args.input.now.table.now in
    let decided = violation_decided (records_of table) (IsWeak (cost_of table)) (IsStrict (cost_of table)) c.args.walk.now c.check_violation.result c.check_violation.ensures in
    (λ h. decided.0 (sym c.is_ok.ensures.value ∙ h), λ h. c.is_ok.ensures.value ∙ decided.1 h)
