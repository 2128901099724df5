use Rattle.rp_simplex.proofs.Outcomes.{outcome_shows}
use Rattle.rp_simplex.proofs.laws.outcomes_are_evidence.Goals as goal

pub returns : goal.returns
returns c = λ p o limits e. outcome_shows p o limits e
