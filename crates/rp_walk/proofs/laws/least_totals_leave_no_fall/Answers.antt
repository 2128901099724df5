use Rattle.rp_walk.proofs.Central.{no_walk_falls}
use Rattle.rp_walk.proofs.laws.least_totals_leave_no_fall.Goals as goal

pub returns : goal.returns
returns c = no_walk_falls
