use Rattle.rp_walk.proofs.OneWalk.{cut_one}
use Rattle.rp_walk.proofs.laws.one_cycle_is_cut_from_rounds.Goals as goal

pub returns : goal.returns
returns c = cut_one
