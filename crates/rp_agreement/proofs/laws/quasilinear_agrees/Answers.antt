use Rattle.rp_agreement.proofs.Accepted.{quasilinear_passes}
use Rattle.rp_agreement.proofs.TestsFit.{quasilinear_fits}
use Rattle.rp_agreement.proofs.laws.quasilinear_agrees.Goals as goal

pub returns-clause-accepted : goal.returns-clause-accepted
returns-clause-accepted c = quasilinear_passes

pub returns-clause-readable : goal.returns-clause-readable
returns-clause-readable c = λ n cost verdict few. quasilinear_fits n cost few verdict
