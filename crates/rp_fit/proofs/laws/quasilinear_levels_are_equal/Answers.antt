use Rattle.rp_fit.proofs.OneNumber.{levels_are_equal}
use Rattle.rp_fit.proofs.laws.quasilinear_levels_are_equal.Goals as goal

pub returns : goal.returns
returns c = levels_are_equal
