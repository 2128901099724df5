use Rattle.std.proofs.Common.{◌<◌, ◌≤◌, ℕ, get_or}
use Rattle.rp_evidence.specs.Preference.{IsWeakAt}
use Rattle.rp_table.specs.Cost.{cost_at}
use Rattle.rp_effic.specs.InnerLeft.{AreLeft, IsLeft}
use Rattle.rp_effic.proofs.closed_walk.leads_on.Given as goal

abbrev pub invariant-loop-place : goal.invariant-loop-place
invariant-loop-place l = record {
  left : AreLeft l.costs.n (IsWeakAt (cost_at l.costs) l.level.num l.level.den) l.steps.starts.items l.steps.to.items l.left l.at;
  passed : (p : ℕ) → get_or l.steps.starts.items l.s 0 ≤ p → p < l.place → IsLeft l.left (get_or l.steps.to.items p 0)
      → ¬ IsWeakAt (cost_at l.costs) l.level.num l.level.den l.s (get_or l.steps.to.items p 0);
}
