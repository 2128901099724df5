use Rattle.rp_people.proofs.OfOnePreference.{all_say_of_one}
use Rattle.rp_people.proofs.SaysOfItems.{all_say}
use Rattle.rp_people.proofs.says.proved_certificates_say.Goals as goal

pub returns-clause-people : goal.returns-clause-people
returns-clause-people g c input items full = all_say input full items

pub returns-clause-each : goal.returns-clause-each
returns-clause-each g c input items full = all_say_of_one input full g.P.BundleRelation.prefers items
