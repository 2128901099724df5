use Rattle.rp_walk.proofs.Runs.{IsRun}
use Rattle.rp_walk.proofs.settling.settle_by_rounds.Given as goal

abbrev pub invariant-loop-steps : goal.invariant-loop-steps
invariant-loop-steps g l =
    IsRun (g.T.Total.rule l.total) g.T.Total.fits g.T.Total.exact l.steps l.round.values.items l.round.from.items l.history.items
