use Rattle.rp_evidence.proofs.Violations.{has_reach_and_strict}
use Rattle.rp_evidence.proofs.laws.violations_have_walk_and_strict_step.Goals as goal

pub returns : goal.returns
returns g c = λ n. has_reach_and_strict n g.P.Preference.weak g.P.Preference.strict
