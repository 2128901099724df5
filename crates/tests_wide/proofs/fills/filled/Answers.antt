use Rattle.std.proofs.Common.{subst}
use Rattle.rp_check.specs.CheckVerdict.{IsCheckVerdict}
use Rattle.rp_check.specs.declared.verdict.Verdict.{Verdict}
use Rattle.rp_evidence.specs.Input.{input_of_table}
use Rattle.rp_filled.proofs.CertificateLemmas.{certificate_of_table, denoted_read_back}
use Rattle.tests_wide.proofs.fills.filled.Goals as goal

pub check-requires-clause-kind : goal.check-requires-clause-kind
check-requires-clause-kind c = certificate_of_table c.in_ok-stated.stated (denoted_read_back _ c.in_ok-stated.stated c.in_ok-stated.ensures)

pub fill_certificate-requires-clause-accepted : goal.fill_certificate-requires-clause-accepted
fill_certificate-requires-clause-accepted c =
    subst (λ (verdict : Verdict). IsCheckVerdict (input_of_table c.in_ok-table.table) c.in_ok-stated.stated.levels c.in_ok-stated.stated.items verdict) c.in-Accepted.is c.check.ensures.first_failure

pub fill_certificate-requires-clause-read_back : goal.fill_certificate-requires-clause-read_back
fill_certificate-requires-clause-read_back c = denoted_read_back _ c.in_ok-stated.stated c.in_ok-stated.ensures

pub report-requires : goal.report-requires
report-requires c = certificate_of_table c.in_ok-filled-in-Accepted.filled c.in_ok-filled-in-Accepted.ensures.read_back
