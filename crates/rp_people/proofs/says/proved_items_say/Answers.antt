use Rattle.rp_people.proofs.OfOnePreference.{says_of_one}
use Rattle.rp_people.proofs.SaysOfItems.{says}
use Rattle.rp_people.proofs.says.proved_items_say.Goals as goal

pub returns-clause-people : goal.returns-clause-people
returns-clause-people g c input item full = says input full item

pub returns-clause-each : goal.returns-clause-each
returns-clause-each g c input item full = says_of_one input full g.P.BundleRelation.prefers item
