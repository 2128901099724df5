-- What the example prints.
use Rattle.std.specs.Prelude.{◌≡◌, ◌++◌, ℕ, List, codes}
use Rattle.rp_check.specs.declared.verdict.Verdict.{Verdict}
use Rattle.rp_check.specs.declared.verdict.Verdict.TheVariants.{Accepted, Rejected}
use Rattle.rp_evidence.specs.declared.certificate.Certificate.{Certificate}
use Rattle.rp_report.specs.ReportText.{report_text}
use Rattle.rp_table.specs.Tables.{Observations}
use Rattle.example_verdict.specs.Certified.{IsCertifiedBy}

-- the line on what the checker says
abbrev pub check_line : Verdict → List ℕ
check_line Accepted = codes "accepted\n"
check_line (Rejected item reason place) = codes "rejected\n"

-- The report of a certificate whose verdicts are proved of the table, and then that the checker accepts it.
abbrev pub IsAnswerOn : Observations → List ℕ → Type 0
IsAnswerOn table text =
    (certificate : Certificate) × IsCertifiedBy table certificate
    × (text ≡ report_text table certificate.items ++ check_line Accepted)
