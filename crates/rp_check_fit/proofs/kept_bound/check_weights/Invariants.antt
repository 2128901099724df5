use Rattle.std.proofs.Common.{◌<◌, ◌≤◌, ℕ}
use Rattle.rp_fit.specs.Groups.{weight_on}
use Rattle.rp_check_fit.proofs.kept_bound.check_weights.Given as goal

abbrev pub invariant-loop-s : goal.invariant-loop-s
invariant-loop-s l = (s : ℕ) → s < l.s → l.den ≤ weight_on l.groups s
