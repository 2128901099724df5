use Rattle.rp_evidence.proofs.Violations.{violation_turns}
use Rattle.rp_evidence.proofs.laws.violations_turn.Goals as goal

pub returns : goal.returns
returns g c = λ n. violation_turns n g.P.Preference.weak g.P.Preference.strict
