use Rattle.std.proofs.Common.{ℕ, ◌<◌}
use Rattle.rp_walk.specs.InnerPairs.{NoPartnerBelow}
use Rattle.rp_walk.proofs.cycle.first_breaking_pair.Given as goal

abbrev pub invariant-loop-s : goal.invariant-loop-s
invariant-loop-s g l = (s : ℕ) → s < l.s → NoPartnerBelow (g.T.Total.rule l.total) s (g.T.Total.rule l.total).count
