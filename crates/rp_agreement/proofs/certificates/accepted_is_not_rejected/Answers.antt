use Rattle.rp_agreement.proofs.OneFinding.{only_accepted}
use Rattle.rp_agreement.proofs.certificates.accepted_is_not_rejected.Goals as goal

pub returns : goal.returns
returns c = only_accepted
