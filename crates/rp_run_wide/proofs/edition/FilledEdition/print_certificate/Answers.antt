use Rattle.std.proofs.lemmas.Result.{IfOk-weaker}
use Rattle.rp_filled.proofs.CertificateLemmas.{certificate_of_table}
use Rattle.rp_run_wide.proofs.edition.FilledEdition.print_certificate.Goals as goal

pub report_or_json-requires : goal.report_or_json-requires
report_or_json-requires c = certificate_of_table c.in_ok-filled.filled c.in_ok-filled.ensures.read_back

pub returns : goal.returns
returns c = IfOk-weaker c.report_or_json.result _ _ (λ text is. (c.in_ok-filled.filled, c.in_ok-filled.ensures, is)) c.report_or_json.ensures
