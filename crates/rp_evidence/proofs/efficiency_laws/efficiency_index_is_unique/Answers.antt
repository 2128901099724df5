use Rattle.rp_evidence.proofs.Index.{index_is_one}
use Rattle.rp_evidence.proofs.IndexExists.{lowest_index_exists}
use Rattle.rp_evidence.proofs.efficiency_laws.efficiency_index_is_unique.Goals as goal

pub returns : goal.returns
returns c = record { exists = lowest_index_exists; unique = λ n c f g h k. index_is_one n f.num f.den g.num g.den c h k }
