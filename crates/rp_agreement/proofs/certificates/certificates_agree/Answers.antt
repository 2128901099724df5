use Rattle.rp_agreement.proofs.AcceptedItems.{certificate_accepted}
use Rattle.rp_evidence.specs.declared.certificate.Kind.TheVariants.{Table}
use Rattle.rp_agreement.proofs.ItemsFit.{certificate_readable}
use Rattle.rp_agreement.proofs.SameValues.{text_read_back}
use Rattle.rp_agreement.specs.ReadBack.{certificate_from}
use Rattle.rp_agreement.proofs.certificates.certificates_agree.Goals as goal

pub returns-clause-accepted : goal.returns-clause-accepted
returns-clause-accepted c = λ input verdict rest garp. certificate_accepted input verdict garp rest

pub returns-clause-readable : goal.returns-clause-readable
returns-clause-readable c = λ input verdict rest limited. certificate_readable input limited verdict rest

pub returns-clause-read_back : goal.returns-clause-read_back
returns-clause-read_back c = λ input verdict rest limited first all.
    text_read_back Table (certificate_from input.levels verdict rest) (certificate_readable input limited verdict rest first all)
