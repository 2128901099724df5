use Rattle.rp_evidence.proofs.DemandLaws.{supporting_exactly}
use Rattle.rp_evidence.proofs.demand_laws.supporting_demands_cost_enough.Goals as goal

pub returns : goal.returns
returns c = supporting_exactly
