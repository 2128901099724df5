use Rattle.rp_people.proofs.AfriatUtilities.{have_utility}
use Rattle.rp_people.proofs.axiom.models_give_utilities.Goals as goal

pub returns : goal.returns
returns c choices number multiplier are model = have_utility choices are number multiplier model.at_least_one model
