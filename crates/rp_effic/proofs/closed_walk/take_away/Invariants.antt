use Rattle.rp_evidence.specs.Preference.{IsWeakAt}
use Rattle.rp_table.specs.Cost.{cost_at}
use Rattle.rp_effic.specs.InnerLeft.{AreLeft, HasLooked}
use Rattle.rp_effic.proofs.closed_walk.take_away.Given as goal

abbrev pub invariant-loop-s : goal.invariant-loop-s
invariant-loop-s l = record {
  left : AreLeft l.costs.n (IsWeakAt (cost_at l.costs) l.level.num l.level.den) l.steps.starts.items l.steps.to.items l.left l.at;
  looked : HasLooked l.costs.n (IsWeakAt (cost_at l.costs) l.level.num l.level.den) l.s l.initial.left l.left l.fewer;
}
