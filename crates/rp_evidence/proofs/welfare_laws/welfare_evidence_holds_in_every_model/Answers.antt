use Rattle.rp_evidence.proofs.WelfareModels.{evidence_holds}
use Rattle.rp_evidence.proofs.welfare_laws.welfare_evidence_holds_in_every_model.Goals as goal

pub returns : goal.returns
returns c = evidence_holds
