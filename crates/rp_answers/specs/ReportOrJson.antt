-- The text of a certificate on a table: its report, or its JSON (this program's own formats).
use Rattle.std.specs.Prelude.{ℕ, Bool, List, if◌then◌else◌}
use Rattle.rp_evidence.specs.declared.certificate.Certificate.{Certificate}
use Rattle.rp_json.specs.CertificateValue.{certificate_text}
use Rattle.rp_report.specs.ReportText.{report_text}
use Rattle.rp_table.specs.Tables.{Observations}

abbrev pub report_or_json : Bool → Observations → Certificate → List ℕ
report_or_json json table certificate =
    if json then certificate_text certificate else report_text table certificate.items
