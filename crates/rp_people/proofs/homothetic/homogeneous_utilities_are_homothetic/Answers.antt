use Rattle.rp_people.proofs.Orders.{preference_of_homogeneous}
use Rattle.rp_people.proofs.homothetic.homogeneous_utilities_are_homothetic.Goals as goal

pub returns : goal.returns
returns c = preference_of_homogeneous
