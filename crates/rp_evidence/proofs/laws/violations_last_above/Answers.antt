use Rattle.rp_evidence.proofs.Levels.{violation_lasts}
use Rattle.rp_evidence.proofs.laws.violations_last_above.Goals as goal

pub returns : goal.returns
returns c = violation_lasts
