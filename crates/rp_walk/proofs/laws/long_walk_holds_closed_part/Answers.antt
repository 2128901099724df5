use Rattle.rp_walk.proofs.Central.{holds_closed_part}
use Rattle.rp_walk.proofs.laws.long_walk_holds_closed_part.Goals as goal

pub returns : goal.returns
returns c = holds_closed_part
