use Rattle.rp_evidence.specs.Preference.{IsWeakAt}
use Rattle.rp_table.specs.Cost.{cost_at}
use Rattle.rp_effic.specs.InnerLeft.{AreLeft, left_of}
use Rattle.rp_effic.proofs.closed_walk.has_closed_walk.Given as goal

abbrev pub invariant-sweeps : goal.invariant-sweeps
invariant-sweeps l = AreLeft l.costs.n (IsWeakAt (cost_at l.costs) l.level.num l.level.den) l.steps.starts.items l.steps.to.items l.left l.at

abbrev pub decreases-sweeps : goal.decreases-sweeps
decreases-sweeps l = left_of l.left
