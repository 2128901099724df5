use Rattle.rp_evidence.proofs.StrictStarts.{strictly_exactly}
use Rattle.rp_evidence.proofs.demand_laws.strictly_below_from_strict_starts.Goals as goal

pub returns : goal.returns
returns c = λ input budget t. ((strictly_exactly input budget t).1, (strictly_exactly input budget t).0)
