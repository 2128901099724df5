use Rattle.rp_fit_answers.proofs.CertificateLemmas.{refused_certificate}
use Rattle.rp_fit_answers.proofs.loading.certificate_of.Goals as goal

pub returns-in-Err : goal.returns-in-Err
returns-in-Err c = refused_certificate c.args.file.now c.args.bytes.now c.in-Err.fault c.certificate_refusal.result c.requires c.in-Err.ensures c.certificate_refusal.ensures
