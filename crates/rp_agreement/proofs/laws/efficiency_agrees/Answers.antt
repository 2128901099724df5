use Rattle.rp_agreement.proofs.Accepted.{efficiency_passes}
use Rattle.rp_agreement.proofs.TestsFit.{efficiency_fits}
use Rattle.rp_agreement.proofs.laws.efficiency_agrees.Goals as goal

pub returns-clause-accepted : goal.returns-clause-accepted
returns-clause-accepted c = efficiency_passes

pub returns-clause-readable : goal.returns-clause-readable
returns-clause-readable c = λ n cost verdict few. efficiency_fits n cost few verdict
