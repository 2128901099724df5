use Rattle.std.proofs.Common.{◌<◌, ℕ}
use Rattle.rp_effic.specs.InnerLeft.{IsLeft}
use Rattle.rp_effic.proofs.closed_walk.any_left.Given as goal

abbrev pub invariant-loop-some : goal.invariant-loop-some
invariant-loop-some l = (s : ℕ) → s < l.some-index → ¬ IsLeft l.left s
