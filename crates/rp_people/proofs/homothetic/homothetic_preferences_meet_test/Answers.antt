use Rattle.rp_people.proofs.SaysOfItems.{homothetic_meets, homothetic_of_one}
use Rattle.rp_people.proofs.homothetic.homothetic_preferences_meet_test.Goals as goal

pub returns-clause-some : goal.returns-clause-some
returns-clause-some g c = homothetic_meets

pub returns-clause-each : goal.returns-clause-each
returns-clause-each g c input full = homothetic_of_one input full g.P.BundleRelation.prefers
