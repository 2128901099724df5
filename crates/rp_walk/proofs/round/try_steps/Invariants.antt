use Rattle.std.specs.Prelude.{◌≤◌, ◌-◌}
use Rattle.rp_walk.specs.InnerRounds.{IsTried, StepsFit}
use Rattle.rp_walk.proofs.round.try_steps.Given as goal

abbrev pub invariant-loop-to : goal.invariant-loop-to
invariant-loop-to g l = record {
  tried : IsTried (g.T.Total.rule l.total) g.T.Total.exact (g.T.Total.exact l.v) l.from l.fn.next.values.items l.fn.next.from.items l.to l.next.values.items l.next.from.items;
  fit : StepsFit (g.T.Total.rule l.total) g.T.Total.fits (g.T.Total.exact l.v) l.from l.to;
  within : l.to ≤ l.n;
}

abbrev pub decreases-loop-to : goal.decreases-loop-to
decreases-loop-to g l = l.n - l.to
