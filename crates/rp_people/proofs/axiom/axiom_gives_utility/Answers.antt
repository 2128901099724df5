use Rattle.rp_people.proofs.AfriatUtilities.{concave_utility_exists, model_and_utility}
use Rattle.rp_people.proofs.axiom.axiom_gives_utility.Goals as goal

pub returns-clause-model : goal.returns-clause-model
returns-clause-model c = model_and_utility

pub returns-clause-utility : goal.returns-clause-utility
returns-clause-utility c = concave_utility_exists
