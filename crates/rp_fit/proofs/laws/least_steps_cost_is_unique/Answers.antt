use Rattle.rp_fit.proofs.OneNumber.{cost_is_one}
use Rattle.rp_fit.proofs.laws.least_steps_cost_is_unique.Goals as goal

pub returns : goal.returns
returns c = cost_is_one
