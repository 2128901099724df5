use Rattle.rp_agreement.proofs.AcceptedRandom.{random_passes}
use Rattle.rp_agreement.proofs.RandomFits.{random_fits}
use Rattle.rp_agreement.proofs.laws.random_agrees.Goals as goal

pub returns-clause-accepted : goal.returns-clause-accepted
returns-clause-accepted c = λ p types part is few_patches few all. random_passes p is few_patches types few all part

pub returns-clause-readable : goal.returns-clause-readable
returns-clause-readable c = λ p types part valid. random_fits p types valid part
