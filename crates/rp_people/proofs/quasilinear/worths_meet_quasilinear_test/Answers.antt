use Rattle.rp_people.proofs.SaysOfItems.{worth_meets}
use Rattle.rp_people.proofs.quasilinear.worths_meet_quasilinear_test.Goals as goal

pub returns : goal.returns
returns c = worth_meets
