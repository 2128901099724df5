use Rattle.rp_farkas.proofs.Duality.{no_bound}
use Rattle.rp_farkas.proofs.laws.rays_leave_no_bound.Goals as goal

pub returns : goal.returns
returns c = no_bound
