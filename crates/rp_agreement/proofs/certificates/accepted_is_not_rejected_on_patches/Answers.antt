use Rattle.rp_agreement.proofs.OneRandomFinding.{only_accepted_on_patches}
use Rattle.rp_agreement.proofs.certificates.accepted_is_not_rejected_on_patches.Goals as goal

pub returns : goal.returns
returns c = only_accepted_on_patches
