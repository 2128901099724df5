use Rattle.rp_table.specs.Cost.{cost_at}
use Rattle.rp_effic.specs.InnerWeakSteps.{AreWeakSteps}
use Rattle.rp_effic.proofs.weak_steps.weak_steps.Given as goal

abbrev pub invariant-loop-s : goal.invariant-loop-s
invariant-loop-s l = AreWeakSteps l.s l.costs.n (cost_at l.costs) l.starts.items l.to.items
