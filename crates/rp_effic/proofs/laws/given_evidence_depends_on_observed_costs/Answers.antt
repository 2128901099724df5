use Rattle.rp_effic.proofs.SameVerdicts.{verdict_same}
use Rattle.rp_effic.proofs.laws.given_evidence_depends_on_observed_costs.Goals as goal

pub returns : goal.returns
returns c = verdict_same
