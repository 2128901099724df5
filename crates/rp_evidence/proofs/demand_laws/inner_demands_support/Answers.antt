use Rattle.rp_evidence.proofs.InnerDemand.{inner_demand_supports}
use Rattle.rp_evidence.proofs.demand_laws.inner_demands_support.Goals as goal

pub returns : goal.returns
returns c = λ input budget bundle sound goods first prices. inner_demand_supports input budget sound goods first prices bundle
