use Rattle.rp_people.proofs.MoneyLaws.{numbers_exist, numbers_give_worth}
use Rattle.rp_people.proofs.quasilinear.quasilinear_test_gives_worth.Goals as goal

pub returns : goal.returns
returns c input full holds = let r = numbers_exist input.n input.cost full.some holds in numbers_give_worth input full r.0 r.1
