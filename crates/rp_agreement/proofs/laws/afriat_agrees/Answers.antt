use Rattle.rp_agreement.proofs.Accepted.{afriat_passes}
use Rattle.rp_agreement.proofs.TestsFit.{afriat_fits}
use Rattle.rp_agreement.proofs.laws.afriat_agrees.Goals as goal

pub returns-clause-accepted : goal.returns-clause-accepted
returns-clause-accepted c = afriat_passes

pub returns-clause-readable : goal.returns-clause-readable
returns-clause-readable c = λ n levels c part few. afriat_fits n few levels c part
