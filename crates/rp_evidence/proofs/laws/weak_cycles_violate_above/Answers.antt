use Rattle.rp_evidence.proofs.Levels.{weak_cycle_violates}
use Rattle.rp_evidence.proofs.laws.weak_cycles_violate_above.Goals as goal

pub returns : goal.returns
returns c = weak_cycle_violates
