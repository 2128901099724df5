use Rattle.rp_evidence.proofs.IndexThreshold.{index_is_least}
use Rattle.rp_evidence.proofs.efficiency_laws.efficiency_index_is_threshold.Goals as goal

pub returns : goal.returns
returns c = λ n num den c some positive. index_is_least n c some positive num den
