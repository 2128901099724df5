use Rattle.rp_evidence.proofs.SameItems.{item_same}
use Rattle.rp_evidence.proofs.laws.evidence_depends_on_observations.Goals as goal

pub returns : goal.returns
returns c = λ input other item agree. item_same input other agree item
