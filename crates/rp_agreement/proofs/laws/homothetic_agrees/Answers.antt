use Rattle.rp_agreement.proofs.Accepted.{homothetic_passes}
use Rattle.rp_agreement.proofs.TestsFit.{homothetic_fits}
use Rattle.rp_agreement.proofs.laws.homothetic_agrees.Goals as goal

pub returns-clause-accepted : goal.returns-clause-accepted
returns-clause-accepted c = homothetic_passes

pub returns-clause-readable : goal.returns-clause-readable
returns-clause-readable c = λ n cost verdict few. homothetic_fits n cost few verdict
