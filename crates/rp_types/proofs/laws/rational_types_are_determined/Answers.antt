use Rattle.rp_types.proofs.Determined.{types_once}
use Rattle.rp_types.proofs.laws.rational_types_are_determined.Goals as goal

pub returns : goal.returns
returns c = λ p one other are also. types_once p one other are also
