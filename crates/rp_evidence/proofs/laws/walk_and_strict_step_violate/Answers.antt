use Rattle.rp_evidence.proofs.Violations.{reach_and_strict}
use Rattle.rp_evidence.proofs.laws.walk_and_strict_step_violate.Goals as goal

pub returns : goal.returns
returns g c = λ n s t. reach_and_strict n g.P.Preference.weak g.P.Preference.strict s t
