use Rattle.rp_simplex.proofs.Outcomes.{outcome_same}
use Rattle.rp_simplex.proofs.laws.the_run_is_determined.Goals as goal

pub returns : goal.returns
returns c = λ p one other limits e f. outcome_same p one other limits e f
