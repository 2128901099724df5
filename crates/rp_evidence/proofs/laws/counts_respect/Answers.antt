use Rattle.rp_evidence.proofs.Counts.{counts_respect_preference}
use Rattle.rp_evidence.proofs.laws.counts_respect.Goals as goal

pub returns : goal.returns
returns g c = λ n counts is_weak. counts_respect_preference n g.P.Preference.weak g.P.Preference.strict is_weak counts
