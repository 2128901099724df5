use Rattle.rp_fit.proofs.OneNumber.{index_is_one}
use Rattle.rp_fit.proofs.laws.houtman_maks_index_is_unique.Goals as goal

pub returns : goal.returns
returns c = index_is_one
