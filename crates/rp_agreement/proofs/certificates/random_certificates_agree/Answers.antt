use Rattle.rp_agreement.proofs.AcceptedRandom.{random_certificate_passes}
use Rattle.rp_evidence.specs.Certificates.{random_certificate}
use Rattle.rp_evidence.specs.declared.certificate.Kind.TheVariants.{Random}
use Rattle.rp_agreement.proofs.ItemsFit.{random_readable}
use Rattle.rp_agreement.proofs.SameValues.{text_read_back}
use Rattle.rp_agreement.proofs.certificates.random_certificates_agree.Goals as goal

pub returns-clause-accepted : goal.returns-clause-accepted
returns-clause-accepted c = λ p types part is few_patches few all. random_certificate_passes p is few_patches types few all part

pub returns-clause-readable : goal.returns-clause-readable
returns-clause-readable c = random_readable

pub returns-clause-read_back : goal.returns-clause-read_back
returns-clause-read_back c = λ p types part valid proves given.
    text_read_back Random (random_certificate p.total part) (random_readable p types part valid proves given)
