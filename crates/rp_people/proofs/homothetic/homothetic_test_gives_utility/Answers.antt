use Rattle.rp_people.proofs.Values.{values_exist, values_give_utility}
use Rattle.rp_people.proofs.homothetic.homothetic_test_gives_utility.Goals as goal

pub returns : goal.returns
returns c input full holds = let r = values_exist input.n input.cost full.positive_costs full.some holds in values_give_utility input full r.0 r.1 r.2
