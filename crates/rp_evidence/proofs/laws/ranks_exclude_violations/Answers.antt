use Rattle.rp_evidence.proofs.Violations.{no_violation_under_ranks}
use Rattle.rp_evidence.proofs.laws.ranks_exclude_violations.Goals as goal

pub returns : goal.returns
returns g c = λ n ranks walk respect. no_violation_under_ranks n g.P.Preference.weak g.P.Preference.strict ranks respect walk
