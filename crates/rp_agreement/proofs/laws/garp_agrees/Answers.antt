use Rattle.rp_evidence.specs.Preference.{StrictByLevels, WeakByLevels}
use Rattle.rp_agreement.proofs.Accepted.{garp_passes}
use Rattle.rp_agreement.proofs.TestsFit.{garp_fits}
use Rattle.rp_agreement.proofs.laws.garp_agrees.Goals as goal

pub returns-clause-accepted : goal.returns-clause-accepted
returns-clause-accepted c = λ n levels c verdict. garp_passes n (WeakByLevels levels c) (StrictByLevels levels c) verdict

pub returns-clause-readable : goal.returns-clause-readable
returns-clause-readable c = λ n levels c verdict few. garp_fits n few (WeakByLevels levels c) (StrictByLevels levels c) verdict
