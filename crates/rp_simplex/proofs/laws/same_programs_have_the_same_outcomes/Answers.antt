use Rattle.rp_simplex.proofs.Same.{same_outcome}
use Rattle.rp_simplex.proofs.laws.same_programs_have_the_same_outcomes.Goals as goal

pub returns : goal.returns
returns c = λ p q o same e. same_outcome p q same o e
